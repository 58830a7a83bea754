-- Lists whose items a function maps: their members, that no item stands twice, and that functions with the same values make the same list.
use Rattle.mat_sets.proofs.Common.{◌≡◌, ℕ, true, eqb, List, [], ◌∷◌, map, inl, inr, refl, sym, ap, ◌∙◌, both_ways, eq-eqb, eqb-true, false_from_ne_true, false≢true, or_cases, or_left, or_right, is_member, AreDistinct}
use Rattle.mat_sets.proofs.ListParts.{is_member-tail}
use Rattle.mat_sets.proofs.Members.{is_member-head}

pub is_member-map : (f : ℕ → ℕ) (xs : List ℕ) (x : ℕ) → is_member x xs ≡ true → is_member (f x) (map f xs) ≡ true
is_member-map f [] x m = absurd (false≢true m)
is_member-map f (y ∷ xs) x m = elim (or_cases (eqb x y) (is_member x xs) m) [
  | inl same ↦ or_left (eqb (f x) (f y)) _ (eq-eqb (f x) (f y) (ap f (eqb-true x y same)))
  | inr later ↦ or_right (eqb (f x) (f y)) _ (is_member-map f xs x later)
]

pub mapped_member : (f : ℕ → ℕ) (xs : List ℕ) (v : ℕ) → is_member v (map f xs) ≡ true → (x : ℕ) × (is_member x xs ≡ true) × (f x ≡ v)
mapped_member f [] v m = absurd (false≢true m)
mapped_member f (y ∷ xs) v m = elim (or_cases (eqb v (f y)) (is_member v (map f xs)) m) [
  | inl same ↦ (y, is_member-head y xs, sym (eqb-true v (f y) same))
  | inr later ↦ (let w = mapped_member f xs v later in (w.0, is_member-tail w.0 y xs w.1, w.2))
]

-- different items where the function is one to one on them
pub AreDistinct-map : (f : ℕ → ℕ) (xs : List ℕ) → AreDistinct xs
    → ((x y : ℕ) → is_member x xs ≡ true → is_member y xs ≡ true → f x ≡ f y → x ≡ y) → AreDistinct (map f xs)
AreDistinct-map f [] d one = tt
AreDistinct-map f (x ∷ xs) d one = (
  false_from_ne_true _ (λ m. (let w = mapped_member f xs (f x) m in
      let same = one w.0 x (is_member-tail w.0 x xs w.1) (is_member-head x xs) w.2 in
      both_ways _ d.0 (ap (λ z. is_member z xs) (sym same) ∙ w.1))),
  AreDistinct-map f xs d.1 (λ y z m k. one y z (is_member-tail y x xs m) (is_member-tail z x xs k)),
)

-- functions with the same values make the same list
pub map_same : {A B : Type 0} (f g : A → B) → ((x : A) → f x ≡ g x) → (xs : List A) → map f xs ≡ map g xs
map_same f g same [] = refl
map_same f g same (x ∷ xs) = ap (λ y. y ∷ map f xs) (same x) ∙ ap (λ ys. g x ∷ ys) (map_same f g same xs)
