-- How many items a set has, by a function on them: one to one into a set, or onto one.
use Rattle.mat_sets.proofs.Common.{◌≡◌, ℕ, ◌≤◌, true, eqb, List, [], ◌∷◌, length, map, refl, sym, ap, ◌∙◌, arith, eqb-true, false≢true, length-map, is_member, IsRising, IsSubset, union}
use Rattle.mat_sets.proofs.DistinctLists.{length-items}
use Rattle.mat_sets.proofs.Ground.{AreDistinct-rising, length-distinct_subset}
use Rattle.mat_sets.proofs.MappedLists.{AreDistinct-map, is_member-map, mapped_member}
use Rattle.mat_sets.proofs.Members.{IsRising-nil, IsRising-union, is_member-union}
use Rattle.mat_sets.proofs.Subsets.{length-subset}

-- a set each of whose members is the value of some item has at most as many members as there are items
pub length-covered : (f : ℕ → ℕ) (X S : List ℕ) → IsRising S
    → ((v : ℕ) → is_member v S ≡ true → (x : ℕ) × (is_member x X ≡ true) × (f x ≡ v)) → length S ≤ length X
length-covered f X S r covers =
    let values = union (map f X) [] in
    let inside : IsSubset S values = record {
      inside = λ v m.
          let w = covers v m in
          is_member-union v (map f X) [] ∙ grind (arith, ap (λ z. is_member z (map f X)) (sym w.2) ∙ is_member-map f X w.0 w.1);
    } in
    omega (arith, length-subset S values r (IsRising-union (map f X) [] IsRising-nil) inside, length-items (map f X), length-map X f)

-- a set that a function maps one to one into another has at most as many members
pub length-one_to_one : (f : ℕ → ℕ) (X S : List ℕ) → IsRising X → IsRising S
    → ((x : ℕ) → is_member x X ≡ true → is_member (f x) S ≡ true)
    → ((x y : ℕ) → is_member x X ≡ true → is_member y X ≡ true → f x ≡ f y → x ≡ y) → length X ≤ length S
length-one_to_one f X S r s into one =
    let inside : IsSubset (map f X) S = record {
      inside = λ v m. let w = mapped_member f X v m in ap (λ z. is_member z S) (sym w.2) ∙ into w.0 w.1;
    } in
    omega (arith, length-distinct_subset (map f X) S (AreDistinct-map f X (AreDistinct-rising X r) one) s inside, length-map X f)

-- a set whose members are all the same has at most one
pub length-same : (X : List ℕ) → IsRising X → ((x y : ℕ) → is_member x X ≡ true → is_member y X ≡ true → x ≡ y) → length X ≤ 1
length-same X r same = omega (
  arith,
  length-one_to_one (λ x. 0) X (0 ∷ []) r (record { rises = (omega arith, tt) }) (λ x m. refl)
      (λ x y m n e. same x y m n),
)

-- the members of a list of at most one item are the same
pub same-length : (X : List ℕ) (x y : ℕ) → length X ≤ 1 → is_member x X ≡ true → is_member y X ≡ true → x ≡ y
same-length [] x y l m n = absurd (false≢true m)
same-length (z ∷ []) x y l m n = eqb-true x z (only x m) ∙ sym (eqb-true y z (only y n))
  where
    only : (v : ℕ) → is_member v (z ∷ []) ≡ true → eqb v z ≡ true
    only v h = grind arith
same-length (z ∷ w ∷ X) x y l m n = absurd (omega arith)
