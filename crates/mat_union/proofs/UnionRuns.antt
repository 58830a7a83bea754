-- Greedy runs of a union. The run of the first matroid is a maximal independent subset of the run of the union: what the first matroid can
-- take, the union can. A run that begins with some of what a run from nothing takes ends with the same set.
use Rattle.mat_union.proofs.Common.{◌≡◌, ◌⊎◌, ℕ, ◌+◌, ◌<◌, Bool, true, false, not, ◌||◌, ◌&&◌, eqb, List, [], ◌∷◌, length, get_or, inl, inr, refl, sym, ap, ◌∙◌, arith, and_from, and_parts, both_ways, cases_Bool, eqb-true, false_from_ne_true, not-true, not_from_false, or_cases, or_parts}
use Rattle.mat_union.proofs.Common.{family_union, is_member, IsRising, IsSubset, with_one, length-with_one, with_one-holds, family_union-from, is_member-with_one, IsRising-with_one, subsets_equal, with_one-IsSubset, IsSubset-refl, IsSubset-trans, IsSubset-with_one, grown_along, grown_by, IsMatroid}
use Rattle.mat_union.proofs.Common.{IsMaximal, IsRunning, IsRunning-next, AreGrowing, nowhere, parts_pass, union_only, ArePlaced, union_laws, part_at, test_at, union_test, AreMatroids, AreParts, with_one-both, full_in_larger, grow_to_size, rising}
use Rattle.mat_laws.proofs.GreedyRunSets.{grown_by-passes, run_ends}
use Rattle.mat_laws.proofs.Maximal.{IsMaximal-largest}
use Rattle.mat_union.proofs.AddedElements.{one_move}
use Rattle.mat_union.proofs.EmptyParts.{first_are, first_together}
use Rattle.mat_union.proofs.StuckParts.{spanned_refused}

-- ---- one turn of a run

grown_taken : (p : List ℕ → Bool) (I : List ℕ) (x : ℕ) → (not (is_member x I) && p (with_one I x)) ≡ true → grown_by p I x ≡ with_one I x
grown_taken p I x h = rw h refl

grown_left : (p : List ℕ → Bool) (I : List ℕ) (x : ℕ) → (not (is_member x I) && p (with_one I x)) ≡ false → grown_by p I x ≡ I
grown_left p I x h = rw h refl

turn_taken : (p : List ℕ → Bool) (I : List ℕ) (x : ℕ) → is_member x I ≡ false → p (with_one I x) ≡ true → with_one I x ≡ grown_by p I x
turn_taken p I x out ok = sym (grown_taken p I x (and_from (not (is_member x I)) (p (with_one I x)) (not_from_false _ out) ok))

turn_refused : (p : List ℕ → Bool) (I : List ℕ) (x : ℕ) → p (with_one I x) ≡ false → I ≡ grown_by p I x
turn_refused p I x fails = sym (grown_left p I x (last (not (is_member x I)) (p (with_one I x)) fails))
  where
    last : (a b : Bool) → b ≡ false → (a && b) ≡ false
    last a b e = grind arith

pub turn_stands : (p : List ℕ → Bool) (I : List ℕ) (x : ℕ) → is_member x I ≡ true → I ≡ grown_by p I x
turn_stands p I x h = sym (grown_left p I x (first (is_member x I) (p (with_one I x)) h))
  where
    first : (a b : Bool) → a ≡ true → (not a && b) ≡ false
    first a b e = grind arith

module _ {n : ℕ} {tests : List (List ℕ → Bool)} {parts : List (List ℕ)} (laws : AreMatroids n tests) (x : ℕ) (fresh : is_member x (family_union parts) ≡ false) where
  -- an element that came into the parts was taken
  pub placed_turn : {among : List ℕ} {new : List (List ℕ)} → ArePlaced tests parts among x new → family_union new ≡ grown_by (union_test n tests) (family_union parts) x
  placed_turn {among} {new} p = p.together ∙ turn_taken (union_test n tests) (family_union parts) x fresh (ap (union_test n tests) (sym p.together) ∙ parts_pass tests laws new p.are)

  -- a spanned element is refused
  pub spanned_turn : {spanned unspanned : List ℕ} → AreGrowing n tests parts spanned unspanned → is_member x spanned ≡ true → family_union parts ≡ grown_by (union_test n tests) (family_union parts) x
  spanned_turn {spanned} {unspanned} g h = turn_refused (union_test n tests) (family_union parts) x (spanned_refused laws g.are spanned unspanned g x h fresh)

pub running_more : {p : List ℕ → Bool} {order : List ℕ} {i : ℕ} {set : List ℕ} → IsRunning p order i set → (x : ℕ) → i < length order → x ≡ get_or order i 0
    → (set' : List ℕ) → set' ≡ grown_by p set x → IsRunning p order (i + 1) set'
running_more {p} {order} {i} {set} r x l at set' e = IsRunning-next p order set i x l at r (not (is_member x set) && p (with_one set x)) set' refl e

-- ---- a run that begins with some of what it takes

module _ {n : ℕ} {p : List ℕ → Bool} (law : IsMatroid n p) where
  module _ (C D : List ℕ) (x : ℕ) (c : p C ≡ true) (rd : IsRising D) (s : IsSubset C D) (G : List ℕ) (g : p G ≡ true) (later : IsSubset (grown_by p C x) G) (t : IsSubset D G) where
    abbrev c_takes : Bool
    c_takes = not (is_member x C) && p (with_one C x)

    abbrev d_takes : Bool
    d_takes = not (is_member x D) && p (with_one D x)

    x_later : c_takes ≡ true → is_member x G ≡ true
    x_later h = later.inside x (ap (is_member x) (grown_taken p C x h) ∙ with_one-holds C x)

    with_x : is_member x G ≡ true → IsSubset (with_one D x) G
    with_x h = with_one-IsSubset D G x t h

    -- where the smaller set takes x, the larger one has it or takes it
    both_take : c_takes ≡ true → d_takes ≡ false → is_member x D ≡ true
    both_take h o = elim (cases_Bool (is_member x D)) [
      | inl a ↦ a
      | inr b ↦ absurd (both_ways _ o (and_from (not (is_member x D)) (p (with_one D x)) (not_from_false _ b)
          (law.subsets (with_one D x) G (IsRising-with_one D x rd) (with_x (x_later h)) g)))
    ]

    takes_too : d_takes ≡ true → c_takes ≡ true
    takes_too h =
        let b = and_parts (not (is_member x D)) (p (with_one D x)) h in
        let out : is_member x C ≡ false = false_from_ne_true _ (λ k. both_ways _ (not-true _ b.0) (s.inside x k)) in
        and_from (not (is_member x C)) (p (with_one C x)) (not_from_false _ out)
        (law.subsets (with_one C x) (with_one D x) (IsRising-with_one C x (rising law C c)) (with_one-both C D x s) b.1)

    abbrev IsStep : List ℕ → List ℕ → Type 0
    IsStep C' D' = IsRising D' × IsSubset C' D' × IsSubset D' G

    same_step : (C' C'' D' D'' : List ℕ) → C' ≡ C'' → D' ≡ D'' → IsStep C'' D'' → IsStep C' D'
    same_step C' C'' D' D'' e f h = rw (e, f) h

    step_both : IsStep (grown_by p C x) (grown_by p D x)
    step_both = elim (cases_Bool c_takes) [
      | inl a ↦ elim (cases_Bool d_takes) [
        | inl b ↦ same_step _ (with_one C x) _ (with_one D x) (grown_taken p C x a) (grown_taken p D x b) (IsRising-with_one D x rd, with_one-both C D x s, with_x (x_later a))
        | inr o ↦ same_step _ (with_one C x) _ D (grown_taken p C x a) (grown_left p D x o) (rd, with_one-IsSubset C D x s (both_take a o), t)
      ]
      | inr a ↦ elim (cases_Bool d_takes) [
        | inl b ↦ absurd (both_ways _ a (takes_too b))
        | inr o ↦ same_step _ C _ D (grown_left p C x a) (grown_left p D x o) (rd, s, t)
      ]
    ]

  run_from : (order C D : List ℕ) → p C ≡ true → IsRising D → IsSubset C D → IsSubset D (grown_along p C order) → grown_along p D order ≡ grown_along p C order
  run_from [] C D c rd s t = subsets_equal D C rd (rising law C c) t s
  run_from (x ∷ order) C D c rd s t =
      let next = grown_by-passes p C x c in
      let r = run_ends law (grown_by p C x) order next in
      let step = step_both C D x c rd s (grown_along p (grown_by p C x) order) r.passes r.holds t in
      run_from order (grown_by p C x) (grown_by p D x) next step.0 step.1 step.2

  pub running_from : (order D : List ℕ) → p D ≡ true → IsSubset D (grown_along p [] order) → IsRunning p order 0 D
  running_from order D d t = record { passes = d; rest = run_from order [] D law.empty (rising law D d) (record { inside = λ x h. absurd (both_ways false refl h) }) t }

  -- ---- what a maximal independent subset can take

  adds_within : (C A J : List ℕ) (x : ℕ) → IsMaximal p C A → p (with_one A x) ≡ true → is_member x C ≡ false → p J ≡ true → IsSubset J C → p (with_one J x) ≡ true
  adds_within C A J x m ok out j s =
      let x_out : is_member x A ≡ false = false_from_ne_true _ (λ h. both_ways _ out (m.inside.inside x h)) in
      let more = length-with_one A x (rising law A m.passes) x_out in
      let most = IsMaximal-largest law C A m J j s in
      let g = grow_to_size law J (with_one A x) j ok (omega arith) in
      elim (cases_Bool (is_member x g.0)) [
        | inl here ↦ law.subsets (with_one J x) g.0 (IsRising-with_one J x (rising law J j)) (with_one-IsSubset J g.0 x g.1.holds here) g.1.passes
        | inr missing ↦ absurd (
            let large = IsMaximal-largest law C A m g.0 g.1.passes (record { inside = λ k h. within g.0 k missing h (or_cases (is_member k J) (is_member k (with_one A x)) (g.1.inside k h)) }) in
            let size = g.1.size in
            omega arith)
      ]
    where
      within : (T : List ℕ) (k : ℕ) → is_member x T ≡ false → is_member k T ≡ true → (is_member k J ≡ true) ⊎ (is_member k (with_one A x) ≡ true) → is_member k C ≡ true
      within T k missing h (inl a) = s.inside k a
      within T k missing h (inr b) = elim (or_cases (eqb k x) (is_member k A) (sym (is_member-with_one k x A) ∙ b)) [
        | inl e ↦ absurd (both_ways _ missing (ap (λ z. is_member z T) (sym (eqb-true k x e)) ∙ h))
        | inr a ↦ m.inside.inside k a
      ]

  -- one more element in both sets
  maximal_both : (C A : List ℕ) (x : ℕ) → IsMaximal p C A → p (with_one A x) ≡ true → IsMaximal p (with_one C x) (with_one A x)
  maximal_both C A x m ok = record {
    passes = ok;
    inside = with_one-both A C x m.inside;
    full = λ k h o. (let out = or_parts (eqb k x) (is_member k A) (sym (is_member-with_one k x A) ∙ o) in
        full_in_larger law A (with_one A x) k (rising law A m.passes) (IsSubset-with_one A x)
        (m.full k (other (eqb k x) (is_member k C) out.0 (sym (is_member-with_one k x C) ∙ h)) out.1));
  }
    where
      other : (a b : Bool) → a ≡ false → (a || b) ≡ true → b ≡ true
      other a b f e = grind arith

  -- one more element in the larger set alone
  maximal_larger : (C A : List ℕ) (x : ℕ) → IsMaximal p C A → p (with_one A x) ≡ false → IsMaximal p (with_one C x) A
  maximal_larger C A x m fails = record {
    passes = m.passes;
    inside = IsSubset-trans A C (with_one C x) m.inside (IsSubset-with_one C x);
    full = λ k h o. elim (or_cases (eqb k x) (is_member k C) (sym (is_member-with_one k x C) ∙ h)) [
      | inl e ↦ ap (λ z. p (with_one A z)) (eqb-true k x e) ∙ fails
      | inr a ↦ m.full k a o
    ];
  }

-- ---- the run of the first matroid

module _ {n : ℕ} {tests : List (List ℕ → Bool)} (laws : AreMatroids n tests) (some : 0 < length tests) where
  abbrev p : List ℕ → Bool
  p = test_at tests 0

  abbrev U : List ℕ → Bool
  U = union_test n tests

  law : IsMatroid n p
  law = laws.each 0 some

  -- what the first matroid can take, the union can
  union_takes : (C A : List ℕ) (x : ℕ) → IsMaximal p C A → U C ≡ true → p (with_one A x) ≡ true → is_member x C ≡ false → U (with_one C x) ≡ true
  union_takes C A x m c ok out =
      let u = union_only tests laws C c in
      let l : 0 < length u.parts = (let e = u.are.one_each in omega arith) in
      let J = part_at u.parts 0 in
      let fresh : is_member x (family_union u.parts) ≡ false = ap (is_member x) u.together ∙ out in
      let inside : IsSubset J C = record { inside = λ k h. ap (is_member k) (sym u.together) ∙ family_union-from k u.parts 0 l h } in
      let adds = adds_within law C A J x m ok out (u.are.passes 0 l) inside in
      let placed = one_move laws u.are x 0 fresh l (and_from (not (is_member x J)) (p (with_one J x)) (not_from_false _ (nowhere laws u.are 0 x fresh l)) adds) in
      ap U (sym (placed.1.together ∙ ap (λ S. with_one S x) u.together)) ∙ parts_pass tests laws placed.0 placed.1.are

  same_maximal : (C C' A A' : List ℕ) → C ≡ C' → A ≡ A' → IsMaximal p C' A' → IsMaximal p C A
  same_maximal C C' A A' e f h = rw (e, f) h

  first_turn : (C A : List ℕ) (x : ℕ) → IsMaximal p C A → U C ≡ true → IsMaximal p (grown_by U C x) (grown_by p A x)
  first_turn C A x m c = elim (cases_Bool (not (is_member x A) && p (with_one A x))) [
    | inl a ↦ (let b = and_parts (not (is_member x A)) (p (with_one A x)) a in
        let out : is_member x C ≡ false = false_from_ne_true _ (λ h. both_ways _ (m.full x h (not-true _ b.0)) b.1) in
        same_maximal _ (with_one C x) _ (with_one A x) (sym (turn_taken U C x out (union_takes C A x m c b.1 out))) (grown_taken p A x a) (maximal_both law C A x m b.1))
    | inr o ↦ elim (cases_Bool (not (is_member x C) && U (with_one C x))) [
      | inl a ↦ (let b = and_parts (not (is_member x C)) (U (with_one C x)) a in
          let x_out : is_member x A ≡ false = false_from_ne_true _ (λ h. both_ways _ (not-true _ b.0) (m.inside.inside x h)) in
          same_maximal _ (with_one C x) _ A (grown_taken U C x a) (grown_left p A x o) (maximal_larger law C A x m (fails (is_member x A) (p (with_one A x)) x_out o)))
      | inr q ↦ same_maximal _ C _ A (grown_left U C x q) (grown_left p A x o) m
    ]
  ]
    where
      fails : (a b : Bool) → a ≡ false → (not a && b) ≡ false → b ≡ false
      fails a b e h = grind arith

  first_runs : (order C A : List ℕ) → IsMaximal p C A → U C ≡ true → IsMaximal p (grown_along U C order) (grown_along p A order)
  first_runs [] C A m c = m
  first_runs (x ∷ order) C A m c = first_runs order (grown_by U C x) (grown_by p A x) (first_turn C A x m c) (grown_by-passes U C x c)

  pub first_run : (order : List ℕ) → IsMaximal p (grown_along U [] order) (grown_along p [] order)
  first_run order = first_runs order [] [] (record { passes = law.empty; inside = IsSubset-refl []; full = λ k h o. absurd (both_ways false refl h) }) (union_laws tests laws).empty

  -- parts of what the first matroid takes, with which the run of the union can begin
  pub running_first : (order : List ℕ) (parts : List (List ℕ)) → AreParts tests parts → family_union parts ≡ grown_along p [] order → IsRunning U order 0 (family_union parts)
  running_first order parts are e = running_from (union_laws tests laws) order (family_union parts) (parts_pass tests laws parts are)
      (record { inside = λ k h. (first_run order).inside.inside k (ap (is_member k) (sym e) ∙ h) })

-- the first matroid's run and empty parts
module _ {n : ℕ} {tests : List (List ℕ → Bool)} (laws : AreMatroids n tests) (some : 0 < length tests) (order first : List ℕ) (told : first ≡ grown_along (test_at tests 0) [] order) where
  first_passes : test_at tests 0 first ≡ true
  first_passes = ap (test_at tests 0) told ∙ (run_ends (laws.each 0 some) [] order (laws.each 0 some).empty).passes

  module _ (parts : List (List ℕ)) (long : length parts ≡ length tests) (begins : part_at parts 0 ≡ first) (others : (i : ℕ) → 0 < i → part_at parts i ≡ []) where
    pub first_run_are : AreParts tests parts
    first_run_are = first_are parts first begins others laws long first_passes

    pub first_run_holds : family_union parts ≡ grown_along (test_at tests 0) [] order
    first_run_holds = first_together parts first begins others (let e = long in omega arith) (rising (laws.each 0 some) first first_passes) ∙ told
