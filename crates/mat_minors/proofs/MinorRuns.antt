-- The greedy runs of a truncation, a restriction and a contraction, by one run of the matroid within: the truncation stops at its cap, the
-- restriction passes over what is not kept, and the contraction runs through what it contracts first.
use Rattle.mat_minors.proofs.Common.{◌≡◌, ℕ, ◌+◌, ◌<◌, ◌≤◌, Bool, true, false, not, ◌&&◌, ◌||◌, cond, if◌then◌else◌, eqb, leb, List, [], ◌∷◌, ◌++◌, length, get_or, drop, inl, inr, refl, subst, sym, ap, ◌∙◌, arith, cases_Bool, and_parts, and_from, both_ways, false_from_ne_true, and_right, nat_tests}
use Rattle.mat_minors.proofs.Common.{is_member, IsRising, IsSet, IsSubset, AllBelow, AreDistinct, with_one, minus, intersection, union, same_members, is_member-minus, is_member-union, IsRising-minus, IsRising-union, length-with_one, with_one-IsSubset, IsSet-with_one, inside_test, inside_test_from}
use Rattle.mat_minors.proofs.Common.{apart_with, apart_at, union-with_one_left, with_one-holds, and_all, grown_by, grown_along, IsMatroid, IsMaximal, rising, is_truncated, is_restricted, is_contracted, contraction-gives, IsJoined-gives, contracted_laws}
use Rattle.std.specs.List.{filter}
use Rattle.mat_laws.proofs.GreedyRunSteps.{IsRunning, IsRunning-start, IsRunning-next, IsRunning-end}
use Rattle.mat_laws.proofs.GreedyRunSets.{grown_along-append, grown_by-passes, run_ends, run_maximal_of}
use Rattle.mat_laws.proofs.GreedyRunTraces.{IsTracing, IsTracing-start, IsTracing-next, traced}
use Rattle.mat_minors.proofs.MinorRows.{contracted_apart}

-- ---- the truncation

-- the set has come over the first i elements of the order, in the matroid as in its truncation
pub record IsCapped (p : List ℕ → Bool) (cap : ℕ) (order : List ℕ) (i : ℕ) (set : List ℕ) : Type 0 where
  pub tracing : IsTracing p order i set
  pub running : IsRunning (is_truncated cap p) order i set

module _ {n : ℕ} {p : List ℕ → Bool} (laws : IsMatroid n p) (cap : ℕ) (order : List ℕ) where
  pub IsCapped-start : AreDistinct order → IsCapped p cap order 0 []
  IsCapped-start d = record {
    tracing = IsTracing-start p order laws.empty d;
    running = IsRunning-start (is_truncated cap p) order [] (and_from (p []) _ laws.empty (grind (arith, nat_tests))) refl;
  }

  -- below the cap the truncation takes what the matroid takes
  pub IsCapped-next : (all set : List ℕ) (i x : ℕ) → i < length order → x ≡ get_or order i 0 → all ≡ grown_along p [] order
      → length set < cap → IsCapped p cap order i set → (set' : List ℕ) → set' ≡ (if is_member x all then with_one set x else set)
      → IsCapped p cap order (i + 1) set'
  IsCapped-next all set i x inside at run room c set' is = record {
    tracing = IsTracing-next laws order set i x inside at c.tracing (is_member x all) set' told is;
    running = IsRunning-next (is_truncated cap p) order set i x inside at c.running (is_member x all) set' (told ∙ below) is;
  }
    where
      told : is_member x all ≡ (not (is_member x set) && p (with_one set x))
      told = ap (is_member x) run ∙ traced laws order set i x inside at c.tracing

      below : (not (is_member x set) && p (with_one set x)) ≡ (not (is_member x set) && is_truncated cap p (with_one set x))
      below = elim (cases_Bool (is_member x set)) [
        | inl here ↦ rw here refl
        | inr out ↦
            let longer = length-with_one set x (rising laws set c.tracing.running.passes) out in
            let few : leb (length (with_one set x)) cap ≡ true = rw longer (grind (arith, nat_tests)) in
            rw (out, few) (sym (and_all (p (with_one set x))))
      ]

  -- at the cap it takes nothing more
  stays : (rest set : List ℕ) → IsRising set → cap ≤ length set → grown_along (is_truncated cap p) set rest ≡ set
  stays [] set r full = refl
  stays (x ∷ rest) set r full = ap (λ b. grown_along (is_truncated cap p) (cond b (with_one set x) set) rest) none ∙ stays rest set r full
    where
      none : (not (is_member x set) && is_truncated cap p (with_one set x)) ≡ false
      none = elim (cases_Bool (is_member x set)) [
        | inl here ↦ rw here refl
        | inr out ↦
            let longer = length-with_one set x r out in
            let many : leb (length (with_one set x)) cap ≡ false = rw longer (grind (arith, nat_tests)) in
            rw (out, many) (nothing (p (with_one set x)))
      ]
        where
          nothing : (b : Bool) → (true && (b && false)) ≡ false
          nothing true = refl
          nothing false = refl

  pub IsCapped-full : (set : List ℕ) (i : ℕ) → cap ≤ length set → IsCapped p cap order i set
      → set ≡ grown_along (is_truncated cap p) [] order
  IsCapped-full set i full c =
      sym (stays (drop i order) set (rising laws set c.tracing.running.passes) full) ∙ c.running.rest

  pub IsCapped-end : (set : List ℕ) (i : ℕ) → length order ≤ i → IsCapped p cap order i set
      → set ≡ grown_along (is_truncated cap p) [] order
  IsCapped-end set i l c = IsRunning-end (is_truncated cap p) order set i l c.running

-- ---- the restriction

pub restricted_along : (p : List ℕ → Bool) (kept I order : List ℕ) → is_restricted kept p I ≡ true
    → grown_along (is_restricted kept p) I order ≡ grown_along p I (filter (λ x. is_member x kept) order)
restricted_along p kept I [] ok = refl
restricted_along p kept I (x ∷ order) ok = elim (cases_Bool (is_member x kept)) [
  | inl here ↦
      let same : grown_by (is_restricted kept p) I x ≡ grown_by p I x = ap (λ b. cond (not (is_member x I) && b) (with_one I x) I) (adds here) in
      ap (λ S. grown_along (is_restricted kept p) S order) same
      ∙ restricted_along p kept (grown_by p I x) order
      (subst (λ S. is_restricted kept p S ≡ true) same (grown_by-passes (is_restricted kept p) I x ok))
      ∙ sym (ap (grown_along p I) (ap (λ b. cond b (x ∷ filter (λ y. is_member y kept) order) (filter (λ y. is_member y kept) order)) here))
  | inr out ↦
      ap (λ b. grown_along (is_restricted kept p) (cond (not (is_member x I) && b) (with_one I x) I) order) (fails out)
      ∙ ap (λ b. grown_along (is_restricted kept p) (cond b (with_one I x) I) order) (and_right (not (is_member x I)) false refl)
      ∙ restricted_along p kept I order ok
      ∙ sym (ap (grown_along p I) (ap (λ b. cond b (x ∷ filter (λ y. is_member y kept) order) (filter (λ y. is_member y kept) order)) out))
]
  where
    inside : IsSubset I kept
    inside = inside_test I kept (and_parts (p I) (eqb (length (minus I kept)) 0) ok).1

    adds : is_member x kept ≡ true → is_restricted kept p (with_one I x) ≡ p (with_one I x)
    adds here =
        ap (λ b. p (with_one I x) && b) (inside_test_from (with_one I x) kept (with_one-IsSubset I kept x inside here))
        ∙ and_all (p (with_one I x))

    fails : is_member x kept ≡ false → is_restricted kept p (with_one I x) ≡ false
    fails out = false_from_ne_true _ (λ h. both_ways _ out
        ((inside_test (with_one I x) kept (and_parts (p (with_one I x)) _ h).1).inside x (with_one-holds I x)))

-- ---- the contraction

module _ {n : ℕ} {p : List ℕ → Bool} (laws : IsMatroid n p) (away B : List ℕ) (set : IsSet n away) (max : IsMaximal p away B) where
  others : List ℕ → List ℕ
  others order = filter (λ x. not (is_member x away)) order

  contracted_along : (X order : List ℕ) → AllBelow n order → is_contracted n away p X ≡ true
      → union (grown_along (is_contracted n away p) X order) B ≡ grown_along p (union X B) (others order)
  unfolding others
  contracted_along X [] below ok = refl
  contracted_along X (x ∷ order) below ok = elim (cases_Bool (is_member x away)) [
    | inl gone ↦
        ap (λ b. union (grown_along (is_contracted n away p) (cond b (with_one X x) X) order) B) (fails gone)
        ∙ contracted_along X order below.1 ok
        ∙ sym (ap (grown_along p (union X B)) (ap (λ b. cond (not b) (x ∷ others order) (others order)) gone))
    | inr here ↦
        contracted_along (grown_by (is_contracted n away p) X x) order below.1 (grown_by-passes (is_contracted n away p) X x ok)
        ∙ ap (λ S. grown_along p S (others order)) (next here)
        ∙ sym (ap (grown_along p (union X B)) (ap (λ b. cond (not b) (x ∷ others order) (others order)) here))
  ]
    where
      rb : IsRising B
      rb = rising laws B max.passes

      j : (IsSet n X) × (intersection X away ≡ [])
      j = let g = IsJoined-gives laws away B X set.rising max ok in (g.set, g.disjoint)

      fails : is_member x away ≡ true → (not (is_member x X) && is_contracted n away p (with_one X x)) ≡ false
      fails gone = ap (λ b. not (is_member x X) && b) (false_from_ne_true (is_contracted n away p (with_one X x)) (λ h.
          both_ways _ (apart_at (with_one X x) away (contraction-gives n p away (with_one X x) set.rising h).disjoint x (with_one-holds X x)) gone))
          ∙ and_right (not (is_member x X)) false refl

      not_chosen : is_member x away ≡ false → is_member x B ≡ false
      not_chosen out = false_from_ne_true _ (λ m. both_ways _ out (max.inside.inside x m))

      or_none : (a b : Bool) → b ≡ false → (a || b) ≡ a
      or_none true b e = refl
      or_none false b e = e

      next : is_member x away ≡ false → union (grown_by (is_contracted n away p) X x) B ≡ grown_by p (union X B) x
      next out =
          let apart = contracted_apart laws away B set max (with_one X x) (IsSet-with_one n X x j.0 below.0) (apart_with X away x j.1 out) in
          let joined = union-with_one_left X B x rb in
          let new : is_member x (union X B) ≡ is_member x X = is_member-union x X B ∙ or_none (is_member x X) (is_member x B) (not_chosen out) in
          let test : (not (is_member x X) && is_contracted n away p (with_one X x))
          ≡ (not (is_member x (union X B)) && p (with_one (union X B) x)) =
          ap (λ b. not (is_member x X) && b) (apart ∙ ap p joined) ∙ ap (λ b. not b && p (with_one (union X B) x)) (sym new) in
          pick (not (is_member x X) && is_contracted n away p (with_one X x)) joined
          ∙ ap (λ b. cond b (with_one (union X B) x) (union X B)) test
        where
          pick : (b : Bool) → union (with_one X x) B ≡ with_one (union X B) x
              → union (cond b (with_one X x) X) B ≡ cond b (with_one (union X B) x) (union X B)
          pick true e = e
          pick false e = refl

  -- what the run of the matroid takes of the other elements
  contracted_rest : (X : List ℕ) → is_contracted n away p X ≡ true → minus (union X B) away ≡ X
  contracted_rest X ok =
      let g = IsJoined-gives laws away B X set.rising max ok in
      same_members _ _ (IsRising-minus (union X B) away (IsRising-union X B (rising laws B max.passes))) g.set.rising (λ k.
      is_member-minus k (union X B) away ∙ ap (λ b. b && not (is_member k away)) (is_member-union k X B)
      ∙ left (is_member k X) (is_member k B) (is_member k away) (apart_at X away g.disjoint k) (max.inside.inside k))
    where
      left : (a b c : Bool) → (a ≡ true → c ≡ false) → (b ≡ true → c ≡ true) → ((a || b) && not c) ≡ a
      left true b c f h = rw (f refl) refl
      left false true c f h = rw (h refl) refl
      left false false c f h = refl

-- the whole run of the contraction
pub contracted_greedy : {n : ℕ} {p : List ℕ → Bool} → IsMatroid n p → (away order : List ℕ) → IsSet n away → AllBelow n order
    → is_contracted n away p [] ≡ true
    → grown_along (is_contracted n away p) [] order ≡ minus (grown_along p [] (away ++ filter (λ x. not (is_member x away)) order)) away
unfolding union others
contracted_greedy {n} {p} laws away order set below ok =
    let B = grown_along p [] away in
    let max = run_maximal_of laws away B refl in
    let R = grown_along (is_contracted n away p) [] order in
    let passes : is_contracted n away p R ≡ true = (run_ends (contracted_laws n p away set.rising laws) [] order ok).passes in
    sym (contracted_rest laws away B set max R passes)
    ∙ ap (λ S. minus S away) (contracted_along laws away B set max [] order below ok ∙ sym (grown_along-append p [] away _))
