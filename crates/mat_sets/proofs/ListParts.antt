-- Parts of lists: a list split at a member; lists without repetition that are joined, cut, or turned round.
use Rattle.mat_sets.proofs.Common.{◌≡◌, ℕ, suc, ◌<◌, ◌≢◌, Bool, true, false, ◌||◌, eqb, List, [], ◌∷◌, ◌++◌, length, get_or, reverse, inl, inr, refl, sym, ap, ◌∙◌, arith, both_ways, cases_Bool, cases_eq, cases_lt, eqb-true, false_from_ne_true, false≢true, or_cases, or_from, or_left, or_parts}
use Rattle.mat_sets.proofs.Common.{or_right, reverse-append, is_member, AreDistinct}
use Rattle.mat_sets.proofs.Members.{is_member-append, is_member-head, is_member-nowhere}

-- ---- members

pub is_member-tail : (x y : ℕ) (xs : List ℕ) → is_member x xs ≡ true → is_member x (y ∷ xs) ≡ true
is_member-tail x y xs m = or_right (eqb x y) (is_member x xs) m

pub is_member-left : (x : ℕ) (xs ys : List ℕ) → is_member x xs ≡ true → is_member x (xs ++ ys) ≡ true
is_member-left x xs ys m = is_member-append x xs ys ∙ or_left (is_member x xs) (is_member x ys) m

pub is_member-right : (x : ℕ) (xs ys : List ℕ) → is_member x ys ≡ true → is_member x (xs ++ ys) ≡ true
is_member-right x xs ys m = is_member-append x xs ys ∙ or_right (is_member x xs) (is_member x ys) m

pub is_member-middle : (x : ℕ) (xs ys : List ℕ) → is_member x (xs ++ x ∷ ys) ≡ true
is_member-middle x xs ys = is_member-right x xs (x ∷ ys) (is_member-head x ys)

-- one item more at the end
pub is_member-push : (x v : ℕ) (xs : List ℕ) → is_member x (xs ++ v ∷ []) ≡ (is_member x xs || eqb x v)
is_member-push x v xs = is_member-append x xs (v ∷ []) ∙ or_none (is_member x xs) (eqb x v)
  where
    or_none : (a b : Bool) → (a || (b || false)) ≡ (a || b)
    or_none true b = refl
    or_none false true = refl
    or_none false false = refl

-- what is no member differs from a member
pub members_differ : (x y : ℕ) (xs : List ℕ) → is_member x xs ≡ false → is_member y xs ≡ true → eqb x y ≡ false
members_differ x y xs out inside = false_from_ne_true _ (λ same. both_ways _ out (ap (λ z. is_member z xs) (eqb-true x y same) ∙ inside))

pub member_differs : (x y : ℕ) (xs : List ℕ) → is_member x xs ≡ true → is_member y xs ≡ false → eqb x y ≡ false
member_differs x y xs inside out = false_from_ne_true _ (λ same. both_ways _ out (ap (λ z. is_member z xs) (sym (eqb-true x y same)) ∙ inside))

-- ---- a list split at a member

-- a list in two parts, with x between them; x is not in the first part
pub record SplitAt (x : ℕ) (xs : List ℕ) : Type 0 where
  pub before : List ℕ
  pub after : List ℕ
  pub splits : xs ≡ before ++ x ∷ after
  pub first : is_member x before ≡ false

pub split_at : (x : ℕ) (xs : List ℕ) → is_member x xs ≡ true → SplitAt x xs
split_at x [] m = absurd (false≢true m)
split_at x (y ∷ xs) m = elim (cases_Bool (eqb x y)) [
  | inl same ↦ record { before = []; after = xs; splits = ap (λ z. z ∷ xs) (sym (eqb-true x y same)); first = refl }
  | inr other ↦
      let s = split_at x xs (rw other at m) in
      record { before = y ∷ s.before; after = s.after; splits = ap (λ zs. y ∷ zs) s.splits; first = or_from (eqb x y) (is_member x s.before) other s.first }
]

-- ---- lists without repetition

pub AreDistinct-front : (xs ys : List ℕ) → AreDistinct (xs ++ ys) → AreDistinct xs
AreDistinct-front [] ys d = tt
AreDistinct-front (x ∷ xs) ys d = ((or_parts (is_member x xs) (is_member x ys) (sym (is_member-append x xs ys) ∙ d.0)).0, AreDistinct-front xs ys d.1)

pub AreDistinct-rest : (xs ys : List ℕ) → AreDistinct (xs ++ ys) → AreDistinct ys
AreDistinct-rest [] ys d = d
AreDistinct-rest (x ∷ xs) ys d = AreDistinct-rest xs ys d.1

pub AreDistinct-apart : (xs ys : List ℕ) (z : ℕ) → AreDistinct (xs ++ ys) → is_member z xs ≡ true → is_member z ys ≡ false
AreDistinct-apart [] ys z d m = absurd (false≢true m)
AreDistinct-apart (x ∷ xs) ys z d m = elim (or_cases (eqb z x) (is_member z xs) m) [
  | inl same ↦ ap (λ v. is_member v ys) (eqb-true z x same) ∙ (or_parts (is_member x xs) (is_member x ys) (sym (is_member-append x xs ys) ∙ d.0)).1
  | inr later ↦ AreDistinct-apart xs ys z d.1 later
]

pub AreDistinct-append : (xs ys : List ℕ) → AreDistinct xs → AreDistinct ys → ((z : ℕ) → is_member z xs ≡ true → is_member z ys ≡ false)
    → AreDistinct (xs ++ ys)
AreDistinct-append [] ys d e apart = e
AreDistinct-append (x ∷ xs) ys d e apart = (
  is_member-append x xs ys ∙ or_from (is_member x xs) (is_member x ys) d.0 (apart x (is_member-head x xs)),
  AreDistinct-append xs ys d.1 e (λ z m. apart z (is_member-tail z x xs m)),
)

pub AreDistinct-index : (xs : List ℕ) → ((i j : ℕ) → i < j → j < length xs → get_or xs i 0 ≢ get_or xs j 0) → AreDistinct xs
AreDistinct-index [] differ = tt
AreDistinct-index (x ∷ xs) differ = (
  is_member-nowhere xs x (λ k l same. differ 0 (suc k) (omega arith) (omega arith) (sym same)),
  AreDistinct-index xs (λ i j l h. differ (suc i) (suc j) (omega arith) (omega arith)),
)

-- where items at different places differ, one item stands at one place
pub same_place : (xs : List ℕ) → ((i j : ℕ) → i < j → j < length xs → get_or xs i 0 ≢ get_or xs j 0) → (i j : ℕ) → i < length xs
    → j < length xs → get_or xs i 0 ≡ get_or xs j 0 → i ≡ j
same_place xs differ i j il jl e = elim (cases_eq i j) [
  | inl same ↦ same
  | inr d ↦ elim (cases_lt i j) [
    | inl l ↦ absurd (differ i j l jl e)
    | inr l ↦ absurd (differ j i (omega arith) il (sym e))
  ]
]

-- ---- a list turned round

pub reverse-cons : (x : ℕ) (xs : List ℕ) → reverse (x ∷ xs) ≡ reverse xs ++ x ∷ []
reverse-cons x xs = reverse-append (x ∷ []) xs

pub is_member-reverse : (z : ℕ) (xs : List ℕ) → is_member z (reverse xs) ≡ is_member z xs
is_member-reverse z [] = refl
is_member-reverse z (x ∷ xs) =
    ap (is_member z) (reverse-cons x xs) ∙ is_member-append z (reverse xs) (x ∷ [])
    ∙ turned (eqb z x) (is_member z (reverse xs)) (is_member z xs) (is_member-reverse z xs)
  where
    turned : (a b c : Bool) → b ≡ c → (b || (a || false)) ≡ (a || c)
    turned true true c e = refl
    turned true false c e = refl
    turned false true c e = e
    turned false false c e = e

pub AreDistinct-reverse : (xs : List ℕ) → AreDistinct xs → AreDistinct (reverse xs)
AreDistinct-reverse [] d = tt
AreDistinct-reverse (x ∷ xs) d = rw (reverse-cons x xs) (AreDistinct-append (reverse xs) (x ∷ []) (AreDistinct-reverse xs d.1) (refl, tt)
    (λ z m. or_from (eqb z x) false (member_differs z x xs (sym (is_member-reverse z xs) ∙ m) d.0) refl))
