-- The greedy run of a dual takes what the greedy run of its matroid along the reversed order leaves. Where x comes after the elements of P,
-- the run of the matroid has, before x, a maximal independent set A of all that comes after x in the order of the dual. If the run takes x,
-- x cannot be added in the dual: a base C that misses P - B and x has at most the elements of A and those of B in P.
use Rattle.mat_minors.proofs.Common.{◌≡◌, ℕ, ◌<◌, Bool, true, false, eqb, List, [], inl, inr, sym, ap, ◌∙◌, arith, cases_eq, and_parts, both_ways, false_from_ne_true, ne_eqb, eqb-true, or_cases, is_member, IsRising, IsSet, IsSubset, with_one, minus, intersection, union, all_below, set_members}
use Rattle.mat_minors.proofs.Common.{is_member-with_one, is_member-union, is_member-intersection, IsRising-with_one, IsRising-minus, IsRising-intersection, IsRising-union, length-subset, minus-IsSubset, length-with_one, length-minus-intersection, length-union_apart, IsSet-with_one}
use Rattle.mat_minors.proofs.Common.{IsSubset-all_below, AllBelow-subset, apart_at, apart_from, minus_parts, minus_from, with_one-holds, IsMatroid, IsBase, IsMaximal, rising, below, base_largest, IsMaximal-largest, is_dual, dual-gives, dual-from}

module _ {n : ℕ} {p : List ℕ → Bool} (laws : IsMatroid n p) (B : List ℕ) (base : IsBase n p B) (P : List ℕ) (x : ℕ) (set : IsSet n P)
    (small : x < n)
    (fresh : is_member x P ≡ false) where
  rises : IsRising B
  rises = rising laws B base.passes

  -- an element that the run of the matroid leaves is taken by that of the dual
  pub dual_takes : is_member x B ≡ false → is_dual n p (with_one (minus P B) x) ≡ true
  dual_takes out = dual-from laws (with_one (minus P B) x) (record {
    set = IsSet-with_one n (minus P B) x
        (record { rising = IsRising-minus P B set.rising; below = AllBelow-subset n (minus P B) P (minus-IsSubset P B) set.below }) small;
    base = B;
    is_base = base;
    disjoint =
        apart_from B _
        (λ y b. false_from_ne_true _
        (λ h. elim (or_cases (eqb y x) (is_member y (minus P B)) (sym (is_member-with_one y x (minus P B)) ∙ h)) [
          | inl same ↦ both_ways _ out (ap (λ z. is_member z B) (sym (eqb-true y x same)) ∙ b)
          | inr m ↦ both_ways _ (minus_parts P B y m).1 b
        ]));
  })

  -- and one that the run of the matroid takes is left
  pub dual_leaves : is_member x B ≡ true → (A : List ℕ) → IsMaximal p (minus (all_below n) (with_one P x)) A → IsSubset A B
      → is_dual n p (with_one (minus P B) x) ≡ false
  dual_leaves here A max inside = false_from_ne_true _ (λ d.
      let other = dual-gives n p (with_one (minus P B) x) d in
      let C = other.base in
      let rc = rising laws C other.is_base.passes in
      let ra = rising laws A max.passes in
      let one = length-minus-intersection C P rc in
      let outside : IsSubset (minus C P)
      (minus (all_below n) (with_one P x)) = record { inside = λ y m. out_of C other.is_base.passes other.disjoint y m } in
      let few = IsMaximal-largest laws (minus (all_below n) (with_one P x)) A max (minus C P)
      (laws.subsets (minus C P) C (IsRising-minus C P rc) (minus-IsSubset C P) other.is_base.passes) outside in
      let shared = length-subset (intersection C P) (intersection B P) (IsRising-intersection C P rc) (IsRising-intersection B P rises)
      (record { inside = λ y m. of_B C other.disjoint y m }) in
      let apart = length-union_apart A (intersection B P) ra (IsRising-intersection B P rises) (λ y m. not_shared A max y m) in
      let more = length-with_one (union A (intersection B P)) x (IsRising-union A (intersection B P) (IsRising-intersection B P rises))
      (not_in A max) in
      let most = length-subset (with_one (union A (intersection B P)) x) B
      (IsRising-with_one _ x (IsRising-union A (intersection B P) (IsRising-intersection B P rises))) rises
      (record { inside = λ y m. all_in_B A inside y m }) in
      let same = base_largest laws C B other.is_base base.passes in
      let no : ⊥ = absurd (omega (arith, one, few, shared, apart, more, most, same)) in no)
    where
      out_of : (C : List ℕ) → p C ≡ true → intersection C (with_one (minus P B) x) ≡ [] → (y : ℕ) → is_member y (minus C P) ≡ true
          → is_member y (minus (all_below n) (with_one P x)) ≡ true
      out_of C ok none y m =
          let parts = minus_parts C P y m in
          let away = apart_at C (with_one (minus P B) x) none y parts.0 in
          minus_from (all_below n) (with_one P x) y ((IsSubset-all_below n C (below laws C ok)).inside y parts.0) (is_in y parts.1 away)
        where
          is_in : (y : ℕ) → is_member y P ≡ false → is_member y (with_one (minus P B) x) ≡ false → is_member y (with_one P x) ≡ false
          is_in y o a = grind (arith, set_members)

      of_B : (C : List ℕ) → intersection C (with_one (minus P B) x) ≡ [] → (y : ℕ) → is_member y (intersection C P) ≡ true
          → is_member y (intersection B P) ≡ true
      of_B C none y m =
          let c : is_member y C ≡ true = grind (arith, set_members) in let a = apart_at C (with_one (minus P B) x) none y c in grind
          (arith, set_members)

      not_shared : (A : List ℕ) → IsMaximal p (minus (all_below n) (with_one P x)) A → (y : ℕ) → is_member y A ≡ true
          → is_member y (intersection B P) ≡ false
      not_shared A max y m = let o = (minus_parts (all_below n) (with_one P x) y (max.inside.inside y m)).1 in grind (arith, set_members)

      not_in : (A : List ℕ) → IsMaximal p (minus (all_below n) (with_one P x)) A → is_member x (union A (intersection B P)) ≡ false
      not_in A max =
          false_from_ne_true _
          (λ h. elim (or_cases (is_member x A) (is_member x (intersection B P)) (sym (is_member-union x A (intersection B P)) ∙ h)) [
            | inl a ↦ both_ways _ (minus_parts (all_below n) (with_one P x) x (max.inside.inside x a)).1 (with_one-holds P x)
            | inr b ↦ both_ways _ fresh (and_parts (is_member x B) (is_member x P) (sym (is_member-intersection x B P) ∙ b)).1
          ])

      all_in_B : (A : List ℕ) → IsSubset A B → (y : ℕ) → is_member y (with_one (union A (intersection B P)) x) ≡ true
          → is_member y B ≡ true
      all_in_B A inside y m = elim (cases_eq y x) [
        | inl same ↦ ap (λ z. is_member z B) same ∙ here
        | inr differ ↦ (let e = ne_eqb y x differ in let i = inside.inside y in grind (arith, set_members))
      ]
