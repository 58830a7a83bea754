-- A set whose members are all in some sets has at most as many members as the sets have of it together.
use Rattle.mat_facts.proofs.Common.{◌≡◌, ◌<◌, ◌≤◌, ◌+◌, ◌∙◌, ℕ, zero, suc, Bool, true, false, cond, List, [], ◌∷◌, length, inl, inr, refl, ap, subst, arith, cases_eq, or_right, all_below, counted_from, intersection, is_member, is_member-head, sum_by-cons}
use Rattle.std.specs.List.{filter, sum_by}

-- the sum of the first m of these numbers
abbrev pub count_of_first : (ℕ → ℕ) → ℕ → ℕ
count_of_first number m = sum_by number (all_below m)

-- of none
pub count_none : (f : ℕ → ℕ) → count_of_first f 0 ≡ 0
unfolding all_below
count_none f = refl

-- of one more
last_counted : (f : ℕ → ℕ) (lo m : ℕ) → sum_by f (counted_from lo (suc m)) ≡ sum_by f (counted_from lo m) + f (lo + m)
last_counted f lo zero = let last = ap f (let same : lo ≡ lo + 0 = omega arith in same) in omega arith
last_counted f lo (suc m) =
    let all = sum_by-cons f lo (counted_from (suc lo) (suc m)) in
    let before = sum_by-cons f lo (counted_from (suc lo) m) in
    let later = last_counted f (suc lo) m in
    let last = ap f (let same : suc lo + m ≡ lo + suc m = omega arith in same) in
    omega arith

pub count_more : (f : ℕ → ℕ) (m : ℕ) → count_of_first f (suc m) ≡ count_of_first f m + f m
unfolding all_below
count_more f m = last_counted f 0 m ∙ ap (λ k. sum_by f (all_below m) + f k) (let same : 0 + m ≡ m = omega arith in same)

-- larger numbers have a larger sum
pub counts_grow : (f g : ℕ → ℕ) (m : ℕ) → ((i : ℕ) → i < m → f i ≤ g i) → count_of_first f m ≤ count_of_first g m
counts_grow f g zero h = let none = count_none f in omega arith
counts_grow f g (suc m) h =
    let before = counts_grow f g m (λ i l. h i (omega arith)) in
    let here = h m (omega arith) in
    let sum = count_more f m in
    let other = count_more g m in
    omega arith

-- and one that is larger makes it larger
counts_grow_at : (f g : ℕ → ℕ) (m i : ℕ) → i < m → f i < g i → ((k : ℕ) → k < m → f k ≤ g k) → count_of_first f m < count_of_first g m
counts_grow_at f g zero i l more h = absurd (omega arith)
counts_grow_at f g (suc m) i l more h = elim (cases_eq i m) [
  | inl same ↦ (
      let before = counts_grow f g m (λ k l. h k (omega arith)) in
      let here : f m < g m = subst (λ k. f k < g k) same more in
      let sum = count_more f m in
      let other = count_more g m in
      omega arith)
  | inr other ↦ (
      let before = counts_grow_at f g m i (omega arith) more (λ k l. h k (omega arith)) in
      let here = h m (omega arith) in
      let sum = count_more f m in
      let other = count_more g m in
      omega arith)
]

pub divided : (sides : ℕ → List ℕ) (m : ℕ) (X : List ℕ) → ((e : ℕ) → is_member e X ≡ true → (i : ℕ) × (i < m) × (is_member e (sides i) ≡ true))
    → length X ≤ count_of_first (λ i. length (intersection X (sides i))) m
unfolding intersection
divided sides m [] h = omega arith
divided sides m (x ∷ X) h =
    let here = h x (is_member-head x X) in
    let later = divided sides m X (λ e k. h e (or_right _ _ k)) in
    let more = counts_grow_at (λ i. length (filter (λ y. is_member y (sides i)) X)) (λ i. length (filter (λ y. is_member y (sides i)) (x ∷ X))) m here.0 here.1
    (counted here.0 here.2) (λ i l. kept (is_member x (sides i)) i) in
    omega arith
  where
    counted : (i : ℕ) → is_member x (sides i) ≡ true → length (filter (λ y. is_member y (sides i)) X) < length (filter (λ y. is_member y (sides i)) (x ∷ X))
    counted i e = rw e (omega arith)

    kept : (b : Bool) (i : ℕ) → length (filter (λ y. is_member y (sides i)) X)
        ≤ length (cond b (x ∷ filter (λ y. is_member y (sides i)) X) (filter (λ y. is_member y (sides i)) X))
    kept true i = omega arith
    kept false i = omega arith
