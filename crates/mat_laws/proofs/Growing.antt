-- What growing keeps, element by element of a set X: the set stays independent and holds what it began with, and no element of X that
-- was passed can be added. In the end the set is a maximal independent subset.
use Rattle.mat_laws.proofs.Common.{◌≡◌, ℕ, ◌+◌, ◌<◌, ◌≤◌, Bool, true, false, not, ◌&&◌, if◌then◌else◌, List, [], length, get_or, refl, subst, sym, ap, ◌∙◌, inl, inr, arith, cases_lt, both_ways, and_parts, or_cases, is_member, IsSubset, with_one, union, set_members, is_member-union, is_member-get_or}
use Rattle.mat_laws.proofs.Common.{place_of_member, IsSubset-refl, IsSubset-trans, IsSubset-with_one, with_one-IsSubset, union-left, IsMatroid, IsMaximal}
use Rattle.mat_laws.proofs.Independent.{rising, full_in_larger}

-- the set has grown from `from` over the first i members of `within`
pub record IsGrowing (p : List ℕ → Bool) (from within : List ℕ) (i : ℕ) (set : List ℕ) : Type 0 where
  pub passes : p set ≡ true
  pub holds : IsSubset from set
  pub inside : IsSubset set (union from within)
  pub refused : (k : ℕ) → k < i → is_member (get_or within k 0) set ≡ false → p (with_one set (get_or within k 0)) ≡ false

pub IsGrowing-start : (p : List ℕ → Bool) (from within : List ℕ) → p from ≡ true → IsGrowing p from within 0 from
IsGrowing-start p from within ok = record { passes = ok; holds = IsSubset-refl from; inside = union-left from within; refused = λ k l. absurd (omega arith) }

IsGrowing-passed : (p : List ℕ → Bool) (from within set : List ℕ) (i x : ℕ) → x ≡ get_or within i 0 → IsGrowing p from within i set
    → (not (is_member x set) && p (with_one set x)) ≡ false → IsGrowing p from within (i + 1) set
IsGrowing-passed p from within set i x at g neither = record { passes = g.passes; holds = g.holds; inside = g.inside; refused = λ k l o. still_refused k (get_or within k 0) refl l o }
  where
    still_refused : (k y : ℕ) → y ≡ get_or within k 0 → k < i + 1 → is_member y set ≡ false → p (with_one set y) ≡ false
    still_refused k y e h o = elim (cases_lt k i) [
      | inl less ↦ ap (λ z. p (with_one set z)) e ∙ g.refused k less (ap (λ z. is_member z set) (sym e) ∙ o)
      | inr past ↦
          let same : y ≡ x = e ∙ ap (λ j. get_or within j 0) (let j : k ≡ i = omega arith in j) ∙ sym at in
          let o' : is_member x set ≡ false = ap (λ z. is_member z set) (sym same) ∙ o in
          ap (λ z. p (with_one set z)) same ∙ (rw o' at neither)
    ]

module _ {n : ℕ} {p : List ℕ → Bool} (laws : IsMatroid n p) where
  IsGrowing-added : (from within set : List ℕ) (i x : ℕ) → i < length within → x ≡ get_or within i 0 → IsGrowing p from within i set
      → (not (is_member x set) && p (with_one set x)) ≡ true → IsGrowing p from within (i + 1) (with_one set x)
  IsGrowing-added from within set i x l at g both =
      let parts = and_parts (not (is_member x set)) (p (with_one set x)) both in
      let x_in : is_member x within ≡ true = is_member-get_or within i x l (sym at) in
      let x_union : is_member x (union from within) ≡ true = grind (arith, set_members) in
      record {
        passes = parts.1;
        holds = IsSubset-trans from set _ g.holds (IsSubset-with_one set x);
        inside = with_one-IsSubset set _ x g.inside x_union;
        refused = λ k h o. still_refused k (get_or within k 0) refl h o;
      }
    where
      still_refused : (k y : ℕ) → y ≡ get_or within k 0 → k < i + 1 → is_member y (with_one set x) ≡ false
          → p (with_one (with_one set x) y) ≡ false
      still_refused k y e h o = elim (cases_lt k i) [
        | inl less ↦
            let o' : is_member y set ≡ false = grind (arith, set_members) in
            full_in_larger laws set (with_one set x) y (rising laws set g.passes) (IsSubset-with_one set x)
            (ap (λ z. p (with_one set z)) e ∙ g.refused k less (ap (λ z. is_member z set) (sym e) ∙ o'))
        | inr past ↦
            let same : y ≡ x = e ∙ ap (λ j. get_or within j 0) (let j : k ≡ i = omega arith in j) ∙ sym at in
            absurd (both_ways _ o (let m : is_member y (with_one set x) ≡ true = grind (arith, set_members) in m))
      ]

  -- one turn of the loop
  pub IsGrowing-next : (from within set : List ℕ) (i x : ℕ) → i < length within → x ≡ get_or within i 0 → IsGrowing p from within i set
      → (added : Bool) (set' : List ℕ) → added ≡ (not (is_member x set) && p (with_one set x))
      → set' ≡ (if added then with_one set x else set) → IsGrowing p from within (i + 1) set'
  IsGrowing-next from within set i x l at g true set' e set_is = rw set_is (IsGrowing-added from within set i x l at g (sym e))
  IsGrowing-next from within set i x l at g false set' e set_is = rw set_is (IsGrowing-passed p from within set i x at g (sym e))

pub IsGrowing-end : (p : List ℕ → Bool) (from within set : List ℕ) (i : ℕ) → length within ≤ i → IsGrowing p from within i set
    → IsMaximal p (union from within) set
IsGrowing-end p from within set i l g = record {
  passes = g.passes;
  inside = g.inside;
  full = λ x m o. elim (or_cases (is_member x from) (is_member x within) (sym (is_member-union x from within) ∙ m)) [
    | inl a ↦ absurd (both_ways _ o (g.holds.inside x a))
    | inr b ↦ (let w = place_of_member x within b in let k = w.1 in
        ap (λ y. p (with_one set y)) (sym w.2) ∙ g.refused w.0 (omega arith) (ap (λ y. is_member y set) w.2 ∙ o))
  ];
}

-- what grew from the empty set is a maximal independent subset of the other
pub maximal_from_none : (p : List ℕ → Bool) (from within set : List ℕ) → from ≡ [] → IsMaximal p (union from within) set
    → IsMaximal p within set
unfolding union
maximal_from_none p from within set none m = subst (λ X. IsMaximal p X set) (ap (λ f. union f within) none) m
