-- The greedy run of a dual along an order takes what the run of its matroid leaves that goes first through all other elements and then
-- through the order from its end.
use Rattle.mat_minors.proofs.Common.{◌≡◌, ℕ, ◌<◌, Bool, true, false, not, ◌&&◌, ◌||◌, ◌⊎◌, cond, eqb, ltb, List, [], ◌∷◌, ◌++◌, length, reverse, inl, inr, refl, subst, sym, ap, ◌∙◌, arith, cases_Bool, cases_eq, both_ways, ne_eqb, eq-eqb, or_left, or_right, lt-ltb, and_right, append_assoc, is_member}
use Rattle.mat_minors.proofs.Common.{IsRising, IsSet, IsSubset, AllBelow, AreDistinct, with_one, minus, union, all_below, set_members, same_members, is_member-append, is_member-minus, is_member-union, is_member-with_one, IsRising-with_one, IsRising-minus, minus-none, IsSubset-refl, IsSubset-trans}
use Rattle.mat_minors.proofs.Common.{IsSet-with_one, IsSet-nil, AllBelow-member, is_member-all_below, with_one-holds, or_none, IsMatroid, IsBase, IsMaximal, grown_by, grown_along, IsBase-maximal, is_dual, dual_laws}
use Rattle.mat_sets.proofs.ListParts.{reverse-cons, is_member-reverse}
use Rattle.mat_sets.proofs.Equalities.{union-with_one}
use Rattle.mat_laws.proofs.GreedyRunSets.{grown_along-append, grown_by-holds, run_maximal, run_length}
use Rattle.mat_minors.proofs.DualGreedy.{dual_takes, dual_leaves}

-- at each element of the order a maximal independent set of what comes later
abbrev pub Chain : ℕ → (List ℕ → Bool) → List ℕ → List ℕ → List ℕ → Type 0
Chain n p B P [] = Unit {0}
Chain n p B P (x ∷ order) =
    ((A : List ℕ) × IsMaximal p (minus (all_below n) (with_one P x)) A × IsSubset A B) × Chain n p B (with_one P x) order

module _ {n : ℕ} {p : List ℕ → Bool} (laws : IsMatroid n p) where
  module _ (B : List ℕ) (base : IsBase n p B) where
    without : (a b c : Bool) → c ≡ false → (a || b) ≡ (a || (c || b))
    without a b c e = rw e refl

    taken : (k x : ℕ) (P : List ℕ) → k ≡ x → is_member k (minus (all_below n) (with_one P x)) ≡ false
    taken k x P same = is_member-minus k (all_below n) (with_one P x)
        ∙ ap (λ b. is_member k (all_below n) && not b) (ap (λ z. is_member z (with_one P x)) same ∙ with_one-holds P x)
        ∙ and_right (is_member k (all_below n)) false refl

    kept : (k x : ℕ) (P : List ℕ) → eqb k x ≡ false
        → is_member k (minus (all_below n) P) ≡ is_member k (minus (all_below n) (with_one P x))
    kept k x P d = is_member-minus k (all_below n) P ∙ sym (is_member-minus k (all_below n) (with_one P x)
        ∙ ap (λ b. is_member k (all_below n) && not b) (is_member-with_one k x P ∙ ap (λ b. b || is_member k P) d))

    less : (rest order P : List ℕ) (x : ℕ) → is_member x rest ≡ false → is_member x order ≡ false
        → ((k : ℕ) → (is_member k rest || (eqb k x || is_member k order)) ≡ is_member k (minus (all_below n) P))
        → (k : ℕ) → (is_member k rest || is_member k order) ≡ is_member k (minus (all_below n) (with_one P x))
    less rest order P x r o all k = elim (cases_eq k x) [
      | inl same ↦ ap (λ z. is_member z rest || is_member z order) same ∙ rw (r, o) (sym (taken k x P same))
      | inr differ ↦ without (is_member k rest) (is_member k order) (eqb k x) (ne_eqb k x differ) ∙ all k ∙ kept k x P (ne_eqb k x differ)
    ]

    pub chain : (rest order P : List ℕ) → AreDistinct order → ((k : ℕ) → is_member k order ≡ true → is_member k rest ≡ false)
        → ((k : ℕ) → (is_member k rest || is_member k order) ≡ is_member k (minus (all_below n) P))
        → IsSubset (grown_along p [] (rest ++ reverse order)) B → Chain n p B P order
    chain rest [] P d apart all s = tt
    chain rest (x ∷ order) P d apart all s =
        let A = grown_along p [] (rest ++ reverse order) in
        let next = less rest order P x (apart x (or_left (eqb x x) (is_member x order) (eq-eqb x x refl))) d.0 all in
        let longer : grown_along p [] (rest ++ reverse (x ∷ order)) ≡ grown_by p A x =
        ap (λ l. grown_along p [] (rest ++ l)) (reverse-cons x order) ∙ ap (grown_along p []) (sym (append_assoc rest (reverse order) (x ∷ [])))
        ∙ grown_along-append p [] (rest ++ reverse order) (x ∷ []) in
        let inside = IsSubset-trans A (grown_by p A x) B (grown_by-holds p A x) (subst (λ S. IsSubset S B) longer s) in (
          (
            A,
            run_maximal laws (rest ++ reverse order) (minus (all_below n) (with_one P x)) (λ k.
                is_member-append k rest (reverse order) ∙ ap (λ b. is_member k rest || b) (is_member-reverse k order) ∙ next k),
            inside,
          ),
          chain rest order (with_one P x) d.1 (λ k m. apart k (or_right (eqb k x) (is_member k order) m)) next inside,
        )

    unchanged : (P : List ℕ) (x k : ℕ) → eqb k x ≡ false → is_member k (minus P B) ≡ is_member k (minus (with_one P x) B)
    unchanged P x k e = grind (arith, set_members)

    extended : (P : List ℕ) (x k : ℕ) → eqb k x ≡ false → is_member k (with_one (minus P B) x) ≡ is_member k (minus (with_one P x) B)
    extended P x k e = grind (arith, set_members)

    step : (P : List ℕ) (x : ℕ) → IsSet n P → x < n → is_member x P ≡ false
        → ((A : List ℕ) × IsMaximal p (minus (all_below n) (with_one P x)) A × IsSubset A B)
        → (is_member x B ≡ true) ⊎ (is_member x B ≡ false) → grown_by (is_dual n p) (minus P B) x ≡ minus (with_one P x) B
    step P x set small new c (inl here) =
        ap (λ b. cond (not (is_member x (minus P B)) && b) (with_one (minus P B) x) (minus P B))
        (dual_leaves laws B base P x set small new here c.0 c.1 c.2)
        ∙ ap (λ b. cond b (with_one (minus P B) x) (minus P B)) (and_right (not (is_member x (minus P B))) false refl)
        ∙ same_members _ _ (IsRising-minus P B set.rising) (IsRising-minus (with_one P x) B (IsRising-with_one P x set.rising))
        (λ k. elim (cases_eq k x) [
          | inl same ↦ ap (λ z. is_member z (minus P B)) same ∙ (is_member-minus x P B ∙ ap (λ b. b && not (is_member x B)) new)
              ∙ sym (ap (λ z. is_member z (minus (with_one P x) B)) same ∙ is_member-minus x (with_one P x) B
              ∙ ap (λ b. is_member x (with_one P x) && not b) here ∙ and_right (is_member x (with_one P x)) false refl)
          | inr differ ↦ unchanged P x k (ne_eqb k x differ)
        ])
    step P x set small new c (inr out) =
        ap (λ b. cond (not (is_member x (minus P B)) && b) (with_one (minus P B) x) (minus P B)) (dual_takes laws B base P x set small new out)
        ∙ ap (λ b. cond (not b && true) (with_one (minus P B) x) (minus P B)) (is_member-minus x P B ∙ ap (λ b. b && not (is_member x B)) new)
        ∙ same_members _ _ (IsRising-with_one (minus P B) x (IsRising-minus P B set.rising))
        (IsRising-minus (with_one P x) B (IsRising-with_one P x set.rising)) (λ k. elim (cases_eq k x) [
          | inl same ↦ ap (λ z. is_member z (with_one (minus P B) x)) same ∙ with_one-holds (minus P B) x
              ∙ sym (ap (λ z. is_member z (minus (with_one P x) B)) same ∙ is_member-minus x (with_one P x) B
              ∙ ap (λ b. b && not (is_member x B)) (with_one-holds P x) ∙ ap (λ b. true && not b) out)
          | inr differ ↦ extended P x k (ne_eqb k x differ)
        ])

    -- from what B leaves of P the run of the dual comes to what B leaves of P and the order
    pub along : (order P : List ℕ) → IsSet n P → AllBelow n order → AreDistinct order
        → ((k : ℕ) → is_member k order ≡ true → is_member k P ≡ false)
        → Chain n p B P order → grown_along (is_dual n p) (minus P B) order ≡ minus (union order P) B
    unfolding union with_one
    along [] P set b d fresh c = refl
    along (x ∷ order) P set b d fresh c =
        ap (λ S. grown_along (is_dual n p) S order)
        (step P x set b.0 (fresh x (or_left (eqb x x) (is_member x order) (eq-eqb x x refl))) c.0 (cases_Bool (is_member x B)))
        ∙ along order (with_one P x) (IsSet-with_one n P x set b.0) b.1 d.1 (λ k m. still k m) c.1
        ∙ ap (λ S. minus S B) (union-with_one order P x set.rising)
      where
        still : (k : ℕ) → is_member k order ≡ true → is_member k (with_one P x) ≡ false
        still k m = is_member-with_one k x P
            ∙ ap (λ b. b || is_member k P) (ne_eqb k x (λ same. both_ways _ d.0 (ap (λ z. is_member z order) (sym same) ∙ m)))
            ∙ fresh k (or_right (eqb k x) (is_member k order) m)

  -- the whole run of the dual
  pub dual_greedy : (order : List ℕ) → AreDistinct order → AllBelow n order
      → grown_along (is_dual n p) [] order
      ≡ minus (union order []) (grown_along p [] (minus (all_below n) (union order []) ++ reverse order))
  dual_greedy order d b =
      let rest = minus (all_below n) (union order []) in
      let B = grown_along p [] (rest ++ reverse order) in
      let base = IsBase-maximal n p B (run_maximal laws (rest ++ reverse order) (all_below n) (λ k.
      is_member-append k rest (reverse order) ∙ ap (λ b. is_member k rest || b) (is_member-reverse k order) ∙ whole k)) in
      ap (λ S. grown_along (is_dual n p) S order) (sym (minus-none B))
      ∙ along B base order [] (IsSet-nil n) b d (λ k m. refl)
      (chain B base rest order [] d (λ k m. out k m)
      (λ k. whole k ∙ sym (is_member-minus k (all_below n) [] ∙ all_true (is_member k (all_below n)))) (IsSubset-refl B))
    where
      all_true : (a : Bool) → (a && not false) ≡ a
      all_true true = refl
      all_true false = refl

      rest_members : (k : ℕ) → is_member k (minus (all_below n) (union order [])) ≡ (ltb k n && not (is_member k order))
      rest_members k = is_member-minus k (all_below n) (union order [])
          ∙ ap (λ a. a && not (is_member k (union order []))) (is_member-all_below k n)
          ∙ ap (λ a. ltb k n && not a) (is_member-union k order [] ∙ or_none (is_member k order))

      out : (k : ℕ) → is_member k order ≡ true → is_member k (minus (all_below n) (union order [])) ≡ false
      out k m = rest_members k ∙ ap (λ a. ltb k n && not a) m ∙ and_right (ltb k n) false refl

      whole : (k : ℕ) → (is_member k (minus (all_below n) (union order [])) || is_member k order) ≡ is_member k (all_below n)
      whole k =
          ap (λ a. a || is_member k order) (rest_members k) ∙ both (is_member k order) (ltb k n) (λ m. lt-ltb k n (AllBelow-member n order k b m))
          ∙ sym (is_member-all_below k n)
        where
          both : (a c : Bool) → (a ≡ true → c ≡ true) → ((c && not a) || a) ≡ c
          both true c f = rw (f refl) refl
          both false true f = refl
          both false false f = refl

  -- the same where the set of the items is told
  pub dual_greedy_of : (order all : List ℕ) → AreDistinct order → AllBelow n order → all ≡ union order []
      → grown_along (is_dual n p) [] order ≡ minus all (grown_along p [] (minus (all_below n) all ++ reverse order))
  dual_greedy_of order all d b is = rw is (dual_greedy order d b)

  -- a set is independent in the dual exactly where the run of the dual through its members takes as many
  pub dual_by_run : (X items taken : List ℕ) → IsRising X → items ≡ X → taken ≡ grown_along (is_dual n p) [] items
      → eqb (length taken) (length X) ≡ is_dual n p X
  dual_by_run X items taken rises same ends =
      run_length (dual_laws n p laws) X taken rises (ends ∙ ap (grown_along (is_dual n p) []) same)
