-- Sizes and sums of the sets made of others, and induction over sets.
use Rattle.mat_sets.proofs.Common.{List, [], arith, false, length, neg_ℤ, pos, refl, suc, true, ℕ, ℤ, ◌*◌, ◌+ℤ◌, ◌+◌, ◌∷◌, ◌≡◌, ◌≤ℤ◌, ints, indicator, IsRising, IsSubset, intersection, is_member, minus, union, with_one, without_one, sum_of}
use Rattle.mat_sets.proofs.Members.{IsRising-intersection, IsRising-minus, IsRising-nil, IsRising-union, IsRising-with_one, IsRising-without_one, is_member-head, set_members}
use Rattle.mat_sets.proofs.Sums.{balance, sizes}

IsRising-one : (x : ℕ) → IsRising (x ∷ [])
IsRising-one x = record { rises = (omega arith, tt) }

-- ---- the two sides of each law, member by member

bits-union : (a b : List ℕ) (k : ℕ)
    → indicator (is_member k a) + indicator (is_member k b) ≡ indicator (is_member k (union a b)) + indicator (is_member k (intersection a b))
bits-union a b k = grind (arith, set_members)

bits-minus : (a b : List ℕ) (k : ℕ)
    → indicator (is_member k a) + indicator (is_member k []) ≡ indicator (is_member k (minus a b)) + indicator (is_member k (intersection a b))
bits-minus a b k = grind (arith, set_members)

bits-with : (a : List ℕ) (x : ℕ) → is_member x a ≡ false → (k : ℕ)
    → indicator (is_member k (with_one a x)) + indicator (is_member k []) ≡ indicator (is_member k a) + indicator (is_member k (x ∷ []))
bits-with a x h k = grind (arith, set_members)

bits-without : (a : List ℕ) (x : ℕ) → is_member x a ≡ true → (k : ℕ)
    → indicator (is_member k (without_one a x)) + indicator (is_member k (x ∷ [])) ≡ indicator (is_member k a) + indicator (is_member k [])
bits-without a x h k = grind (arith, set_members)

bits-minus_subset : (a b : List ℕ) → IsSubset b a → (k : ℕ)
    → indicator (is_member k (minus a b)) + indicator (is_member k b) ≡ indicator (is_member k a) + indicator (is_member k [])
bits-minus_subset a b h k = grind (arith, set_members, h.inside k)

bits-apart : (a b : List ℕ) → ((x : ℕ) → is_member x a ≡ true → is_member x b ≡ false) → (k : ℕ)
    → indicator (is_member k (union a b)) + indicator (is_member k []) ≡ indicator (is_member k a) + indicator (is_member k b)
bits-apart a b h k = grind (arith, set_members, h k)

-- ---- sizes

pub length-union-intersection : (a b : List ℕ) → IsRising a → IsRising b
    → length a + length b ≡ length (union a b) + length (intersection a b)
length-union-intersection a b r s = sizes a b _ _ r s (IsRising-union a b s) (IsRising-intersection a b r) (bits-union a b)

pub length-minus-intersection : (a b : List ℕ) → IsRising a
    → length a ≡ length (minus a b) + length (intersection a b)
length-minus-intersection a b r = let h = sizes a [] _ _ r IsRising-nil (IsRising-minus a b r) (IsRising-intersection a b r) (bits-minus a b) in omega arith

pub length-with_one : (a : List ℕ) (x : ℕ) → IsRising a → is_member x a ≡ false
    → length (with_one a x) ≡ suc (length a)
length-with_one a x r h = let h = sizes _ [] a _ (IsRising-with_one a x r) IsRising-nil r (IsRising-one x) (bits-with a x h) in omega arith

pub length-without_one : (a : List ℕ) (x : ℕ) → IsRising a → is_member x a ≡ true
    → suc (length (without_one a x)) ≡ length a
length-without_one a x r h = let h = sizes _ _ a [] (IsRising-without_one a x r) (IsRising-one x) r IsRising-nil (bits-without a x h) in omega arith

pub length-exchange_one : (a : List ℕ) (x y : ℕ) → IsRising a → is_member y a ≡ true → is_member x a ≡ false
    → length (with_one (without_one a y) x) ≡ length a
length-exchange_one a x y r hy hx =
    let u : is_member x (without_one a y) ≡ false = grind (arith, set_members) in
    omega (arith, length-with_one _ x (IsRising-without_one a y r) u, length-without_one a y r hy)

-- ---- sums

pub sum_of-with_one : (f : ℕ → ℤ) (a : List ℕ) (x : ℕ) → IsRising a → is_member x a ≡ false
    → sum_of f (with_one a x) ≡ sum_of f a +ℤ f x
sum_of-with_one f a x r h = let e = balance f _ [] a _ (IsRising-with_one a x r) IsRising-nil r (IsRising-one x) (bits-with a x h) in omega (arith, ints)

pub sum_of-without_one : (f : ℕ → ℤ) (a : List ℕ) (x : ℕ) → IsRising a → is_member x a ≡ true
    → sum_of f (without_one a x) +ℤ f x ≡ sum_of f a
sum_of-without_one f a x r h = let e = balance f _ _ a [] (IsRising-without_one a x r) (IsRising-one x) r IsRising-nil (bits-without a x h) in omega (arith, ints)

-- an exchange: a - y + x
pub sum_of-exchange_one : (f : ℕ → ℤ) (a : List ℕ) (x y : ℕ) → IsRising a → is_member y a ≡ true
    → is_member x a ≡ false → sum_of f (with_one (without_one a y) x) +ℤ f y ≡ sum_of f a +ℤ f x
sum_of-exchange_one f a x y r hy hx =
    let u : is_member x (without_one a y) ≡ false = grind (arith, set_members) in
    omega (arith, ints, sum_of-with_one f _ x (IsRising-without_one a y r) u, sum_of-without_one f a y r hy)

-- a split of the weights
pub sum_of-plus : (f g h : ℕ → ℤ) (a : List ℕ) → ((k : ℕ) → is_member k a ≡ true → f k ≡ g k +ℤ h k)
    → sum_of f a ≡ sum_of g a +ℤ sum_of h a
sum_of-plus f g h [] e = refl
sum_of-plus f g h (x ∷ t) e = omega (arith, ints, e x (is_member-head x t), sum_of-plus f g h t (λ k m. e k (grind arith)))

pub sum_of-same : (f g : ℕ → ℤ) (a : List ℕ) → ((k : ℕ) → is_member k a ≡ true → f k ≡ g k) → sum_of f a ≡ sum_of g a
sum_of-same f g [] e = refl
sum_of-same f g (x ∷ xs) e = omega (arith, ints, e x (is_member-head x xs), sum_of-same f g xs (λ k m. e k (grind arith)))

pub sum_of-le : (f g : ℕ → ℤ) (a : List ℕ) → ((k : ℕ) → is_member k a ≡ true → f k ≤ℤ g k) → sum_of f a ≤ℤ sum_of g a
sum_of-le f g [] e = omega (arith, ints)
sum_of-le f g (x ∷ t) e = omega (arith, ints, e x (is_member-head x t), sum_of-le f g t (λ k m. e k (grind arith)))

pub sum_of-high : (f : ℕ → ℤ) (m : ℕ) (a : List ℕ) → ((k : ℕ) → is_member k a ≡ true → f k ≤ℤ pos m)
    → sum_of f a ≤ℤ pos (m * length a)
sum_of-high f m [] h = omega (arith, ints)
sum_of-high f m (x ∷ t) h = omega (arith, ints, h x (is_member-head x t), sum_of-high f m t (λ k q. h k (grind arith)))

pub sum_of-low : (f : ℕ → ℤ) (m : ℕ) (a : List ℕ) → ((k : ℕ) → is_member k a ≡ true → neg_ℤ (pos m) ≤ℤ f k)
    → neg_ℤ (pos (m * length a)) ≤ℤ sum_of f a
sum_of-low f m [] h = omega (arith, ints)
sum_of-low f m (x ∷ t) h = omega (arith, ints, h x (is_member-head x t), sum_of-low f m t (λ k q. h k (grind arith)))

-- ---- a subset, and sets apart

pub length-minus_subset : (a b : List ℕ) → IsRising a → IsRising b → IsSubset b a
    → length (minus a b) + length b ≡ length a
length-minus_subset a b r s h = let e = sizes _ b a [] (IsRising-minus a b r) s r IsRising-nil (bits-minus_subset a b h) in omega arith

pub length-union_apart : (a b : List ℕ) → IsRising a → IsRising b
    → ((x : ℕ) → is_member x a ≡ true → is_member x b ≡ false) → length (union a b) ≡ length a + length b
length-union_apart a b r s h = let e = sizes _ [] a b (IsRising-union a b s) IsRising-nil r s (bits-apart a b h) in omega arith
