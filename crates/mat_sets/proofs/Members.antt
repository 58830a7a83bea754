-- Members of rising lists, and of the sets made of others. Two rising lists with the same members are one list, and
-- each operation has one law that says its members: so an equation of sets is proved member by member.
use Rattle.mat_sets.proofs.Common.{Bool, List, [], ap, arith, cond, drop, eqb, false, get_or, inl, inr, length, ltb, not, refl, subst, suc, sym, true, zero, ℕ, ◌&&◌, ◌++◌, ◌<◌, ◌||◌, ◌∙◌, ◌∷◌, ◌≡◌, ◌≤◌, and_right, both_ways, cases_eq, cases_lt, cases_order, eq-eqb, eqb-true, false≢true, le-ltb}
use Rattle.mat_sets.proofs.Common.{lt-ltb, ne_eqb, or_from, or_right, IsRising, RisesFrom, intersection, is_member, minus, rising_insert, union, with_one, without_one}
use Rattle.std.specs.List.{filter}
use Rattle.mat_sets.proofs.Truths.{or_assoc, or_none, or_swap}

-- ---- order

pub RisesFrom-weaken : (lo hi : ℕ) (t : List ℕ) → lo ≤ hi → RisesFrom hi t → RisesFrom lo t
RisesFrom-weaken lo hi [] h r = tt
RisesFrom-weaken lo hi (x ∷ t) h r = (omega arith, r.1)

-- the last items rise from the same bound
pub RisesFrom-suffix : (k lo : ℕ) (xs : List ℕ) → RisesFrom lo xs → RisesFrom lo (drop k xs)
RisesFrom-suffix zero lo xs r = r
RisesFrom-suffix (suc k) lo [] r = r
RisesFrom-suffix (suc k) lo (x ∷ t) r =
    let l : lo ≤ x = r.0 in RisesFrom-weaken lo (suc x) (drop k t) (omega arith) (RisesFrom-suffix k (suc x) t r.1)

-- nothing below the first bound is a member
pub missing_below : (k lo : ℕ) (t : List ℕ) → k < lo → RisesFrom lo t → is_member k t ≡ false
missing_below k lo [] h r = refl
missing_below k lo (x ∷ t) h r =
    let first : lo ≤ x = r.0 in
    or_from (eqb k x) (is_member k t) (ne_eqb k x (omega arith)) (missing_below k (suc x) t (omega arith) r.1)

pub member_from : (lo k : ℕ) (a : List ℕ) → RisesFrom lo a → is_member k a ≡ true → lo ≤ k
member_from lo k a r h = elim (cases_lt k lo) [ inl l ↦ absurd (both_ways (is_member k a) (missing_below k lo a l r) h) | inr g ↦ g ]

pub is_member-head : (x : ℕ) (t : List ℕ) → is_member x (x ∷ t) ≡ true
is_member-head x t = rw (eq-eqb x x refl)

pub RisesFrom-at : (lo : ℕ) (xs : List ℕ) (j : ℕ) → RisesFrom lo xs → j < length xs → lo ≤ get_or xs j 0
RisesFrom-at lo [] j r h = absurd (omega arith)
RisesFrom-at lo (x ∷ t) zero r h = r.0
RisesFrom-at lo (x ∷ t) (suc j) r h = omega (arith, r.0, RisesFrom-at (suc x) t j r.1 (omega arith))

pub RisesFrom-index : (lo : ℕ) (xs : List ℕ) (i j : ℕ) → RisesFrom lo xs → i < j → j < length xs
    → get_or xs i 0 < get_or xs j 0
RisesFrom-index lo [] i j r l h = absurd (omega arith)
RisesFrom-index lo (x ∷ t) i zero r l h = absurd (omega arith)
RisesFrom-index lo (x ∷ t) zero (suc j) r l h = omega (arith, RisesFrom-at (suc x) t j r.1 (omega arith))
RisesFrom-index lo (x ∷ t) (suc i) (suc j) r l h = RisesFrom-index (suc x) t i j r.1 (omega arith) (omega arith)

-- ---- the reading by index

pub is_member-get_or : (xs : List ℕ) (i x : ℕ) → i < length xs → get_or xs i 0 ≡ x → is_member x xs ≡ true
is_member-get_or [] i x h e = absurd (omega arith)
is_member-get_or (y ∷ t) zero x h e = rw (eq-eqb x y (sym e))
is_member-get_or (y ∷ t) (suc i) x h e = or_right (eqb x y) (is_member x t) (is_member-get_or t i x (omega arith) e)

pub is_member-nowhere : (xs : List ℕ) (x : ℕ) → ((k : ℕ) → k < length xs → get_or xs k 0 ≡ x → ⊥)
    → is_member x xs ≡ false
is_member-nowhere [] x h = refl
is_member-nowhere (y ∷ t) x h = or_from (eqb x y) (is_member x t) (ne_eqb x y (λ e. h 0 (omega arith) (sym e))) (is_member-nowhere t x (λ k l. h (suc k) (omega arith)))

-- a member stands somewhere
pub place_of_member : (x : ℕ) (xs : List ℕ) → is_member x xs ≡ true → (i : ℕ) × (i < length xs) × (get_or xs i 0 ≡ x)
place_of_member x [] m = absurd (both_ways false refl m)
place_of_member x (y ∷ ys) m = elim (cases_eq x y) [
  | inl e ↦ (0, omega arith, sym e)
  | inr d ↦ (let w = place_of_member x ys (rw (ne_eqb x y d) at m) in let l = w.1 in (suc w.0, omega arith, w.2))
]

-- what holds at each place holds of each member
pub members_by_place : (P : ℕ → Type 0) (xs : List ℕ) → ((i : ℕ) → i < length xs → P (get_or xs i 0)) → (x : ℕ)
    → is_member x xs ≡ true → P x
members_by_place P xs h x m = let w = place_of_member x xs m in subst P w.2 (h w.0 w.1)

pub is_member-append : (x : ℕ) (xs ys : List ℕ) → is_member x (xs ++ ys) ≡ (is_member x xs || is_member x ys)
is_member-append x [] ys = refl
is_member-append x (y ∷ xs) ys = rw (is_member-append x xs ys) (or_assoc (eqb x y) (is_member x xs) (is_member x ys))

-- ---- the same members, the same list

-- the members but for the head
tails_agree : (x : ℕ) (a b : List ℕ) → RisesFrom (suc x) a → RisesFrom (suc x) b
    → ((k : ℕ) → is_member k (x ∷ a) ≡ is_member k (x ∷ b)) → (k : ℕ) → is_member k a ≡ is_member k b
tails_agree x a b r s e k =
    elim (cases_eq k x) [
      | inl same ↦ missing_below k (suc x) a (omega arith) r ∙ sym (missing_below k (suc x) b (omega arith) s)
      | inr other ↦ rw (ne_eqb k x other) at (e k)
    ]

pub same_members_from : (lo hi : ℕ) (a b : List ℕ) → RisesFrom lo a → RisesFrom hi b
    → ((k : ℕ) → is_member k a ≡ is_member k b) → a ≡ b
same_members_from lo hi [] [] r s e = refl
same_members_from lo hi [] (y ∷ b) r s e = absurd (both_ways _ (sym (e y)) (is_member-head y b))
same_members_from lo hi (x ∷ a) [] r s e = absurd (both_ways _ (e x) (is_member-head x a))
same_members_from lo hi (x ∷ a) (y ∷ b) r s e =
    elim (cases_order x y) [
      | inl same ↦
          let s' = subst (λ z. RisesFrom (suc z) b) (sym same) s.1 in
          let e' = subst (λ z. (k : ℕ) → is_member k (x ∷ a) ≡ is_member k (z ∷ b)) (sym same) e in
          let rest : a ≡ b = same_members_from (suc x) (suc x) a b r.1 s' (tails_agree x a b r.1 s' e') in
          cc
      | inr (inl less) ↦ absurd (both_ways (is_member x (y ∷ b)) (missing_below x y (y ∷ b) less (omega arith, s.1)) (sym (e x) ∙ is_member-head x a))
      | inr (inr more) ↦ absurd (both_ways (is_member y (x ∷ a)) (missing_below y x (x ∷ a) more (omega arith, r.1)) (e y ∙ is_member-head y b))
    ]

pub same_members : (a b : List ℕ) → IsRising a → IsRising b → ((k : ℕ) → is_member k a ≡ is_member k b) → a ≡ b
same_members a b r s e = same_members_from 0 0 a b r.rises s.rises e

-- ---- what a filter keeps, and what one more item adds

filter_step : (p : ℕ → Bool) (k x : ℕ) (t u : List ℕ) (b : Bool) → p x ≡ b → is_member k u ≡ (is_member k t && p k)
    → is_member k (cond b (x ∷ u) u) ≡ (is_member k (x ∷ t) && p k)
filter_step p k x t u b e ih =
    elim (cases_eq k x) [
      | inl same ↦ let e' : p k ≡ b = ap p same ∙ e in rw (eq-eqb k x same, e') (filter_head k x t u b same (rw e' at ih))
      | inr other ↦ rw (ne_eqb k x other) (filter_other k x u b other ∙ ih)
    ]
  where
    filter_other : (k x : ℕ) (u : List ℕ) (b : Bool) → (k ≡ x → ⊥) → is_member k (cond b (x ∷ u) u) ≡ is_member k u
    filter_other k x u true other = rw (ne_eqb k x other)
    filter_other k x u false other = refl

    filter_head : (k x : ℕ) (t u : List ℕ) (b : Bool) → k ≡ x → is_member k u ≡ (is_member k t && b)
        → is_member k (cond b (x ∷ u) u) ≡ b
    filter_head k x t u true same ih = rw (eq-eqb k x same)
    filter_head k x t u false same ih = ih ∙ and_right (is_member k t) false refl

pub is_member-filter : (p : ℕ → Bool) (k : ℕ) (t : List ℕ) → is_member k (filter p t) ≡ (is_member k t && p k)
is_member-filter p k [] = refl
is_member-filter p k (x ∷ t) = filter_step p k x t (filter p t) (p x) refl (is_member-filter p k t)

pub RisesFrom-filter : (p : ℕ → Bool) (lo : ℕ) (t : List ℕ) → RisesFrom lo t → RisesFrom lo (filter p t)
RisesFrom-filter p lo [] r = tt
RisesFrom-filter p lo (x ∷ t) r =
    elim (p x) as (λ b. RisesFrom lo (cond b (x ∷ filter p t) (filter p t))) [
      | true ↦ (r.0, RisesFrom-filter p (suc x) t r.1)
      | false ↦ RisesFrom-filter p lo t (RisesFrom-weaken lo (suc x) t (omega arith) r.1)
    ]

-- tests that agree at the items keep the same items
pub filter_same_at : (p q : ℕ → Bool) (xs : List ℕ) → ((y : ℕ) → is_member y xs ≡ true → p y ≡ q y) → filter p xs ≡ filter q xs
filter_same_at p q [] h = refl
filter_same_at p q (x ∷ xs) h =
    both (p x) (q x) x (filter p xs) (filter q xs) (h x (is_member-head x xs))
    (filter_same_at p q xs (λ y m. h y (or_right (eqb y x) (is_member y xs) m)))
  where
    both : (a b : Bool) (x : ℕ) (s t : List ℕ) → a ≡ b → s ≡ t → cond a (x ∷ s) s ≡ cond b (x ∷ t) t
    both a b x s t e f = cc

add_step : (k x y : ℕ) (t u : List ℕ) → is_member k u ≡ (eqb k x || is_member k t)
    → is_member k (cond (ltb x y) (x ∷ y ∷ t) (y ∷ cond (eqb x y) t u)) ≡ (eqb k x || is_member k (y ∷ t))
add_step k x y t u ih =
    elim (cases_order x y) [
      | inl same ↦ rw (le-ltb x y (omega arith), eq-eqb x y same) (sym (or_same k x y (is_member k t) same))
      | inr (inl less) ↦ rw (lt-ltb x y less)
      | inr (inr more) ↦ rw (le-ltb x y (omega arith), ne_eqb x y (omega arith), ih) (or_swap (eqb k y) (eqb k x) (is_member k t))
    ]
  where
    or_same : (k x y : ℕ) (c : Bool) → x ≡ y → (eqb k x || (eqb k y || c)) ≡ (eqb k y || c)
    or_same k x y c same = rw same (or_twice (eqb k y) c)
      where
        or_twice : (a c : Bool) → (a || (a || c)) ≡ (a || c)
        or_twice true c = refl
        or_twice false c = refl

pub is_member-rising_insert : (k x : ℕ) (t : List ℕ) → is_member k (rising_insert x t) ≡ (eqb k x || is_member k t)
is_member-rising_insert k x [] = refl
is_member-rising_insert k x (y ∷ t) = add_step k x y t (rising_insert x t) (is_member-rising_insert k x t)

pub RisesFrom-rising_insert : (x lo : ℕ) (t : List ℕ) → lo ≤ x → RisesFrom lo t → RisesFrom lo (rising_insert x t)
RisesFrom-rising_insert x lo [] h r = (h, tt)
RisesFrom-rising_insert x lo (y ∷ t) h r =
    elim (cases_order x y) [
      | inl same ↦ rw (le-ltb x y (omega arith), eq-eqb x y same) r
      | inr (inl less) ↦ rw (lt-ltb x y less) (h, (omega arith, r.1))
      | inr (inr more) ↦ rw (le-ltb x y (omega arith), ne_eqb x y (omega arith)) (r.0, RisesFrom-rising_insert x (suc y) t (omega arith) r.1)
    ]

-- ---- the members of each operation

pub is_member-with_one : (k x : ℕ) (a : List ℕ) → is_member k (with_one a x) ≡ (eqb k x || is_member k a)
unfolding with_one
is_member-with_one k x a = is_member-rising_insert k x a

pub is_member-without_one : (k x : ℕ) (a : List ℕ) → is_member k (without_one a x) ≡ (is_member k a && not (eqb k x))
unfolding without_one
is_member-without_one k x a = is_member-filter (λ z. not (eqb z x)) k a

pub is_member-minus : (k : ℕ) (a b : List ℕ) → is_member k (minus a b) ≡ (is_member k a && not (is_member k b))
unfolding minus
is_member-minus k a b = is_member-filter (λ z. not (is_member z b)) k a

pub is_member-intersection : (k : ℕ) (a b : List ℕ)
    → is_member k (intersection a b) ≡ (is_member k a && is_member k b)
unfolding intersection
is_member-intersection k a b = is_member-filter (λ z. is_member z b) k a

pub is_member-union : (k : ℕ) (a b : List ℕ) → is_member k (union a b) ≡ (is_member k a || is_member k b)
unfolding union
is_member-union k [] b = refl
is_member-union k (x ∷ t) b = rw (is_member-rising_insert k x (union t b), is_member-union k t b) (or_assoc (eqb k x) (is_member k t) (is_member k b))

pub ruleset set_members = (is_member-with_one, is_member-without_one, is_member-minus, is_member-intersection, is_member-union)

-- ---- each operation makes a rising list

pub IsRising-nil : IsRising []
IsRising-nil = record { rises = tt }

pub IsRising-with_one : (a : List ℕ) (x : ℕ) → IsRising a → IsRising (with_one a x)
unfolding with_one
IsRising-with_one a x r = record { rises = RisesFrom-rising_insert x 0 a (omega arith) r.rises }

pub IsRising-without_one : (a : List ℕ) (x : ℕ) → IsRising a → IsRising (without_one a x)
unfolding without_one
IsRising-without_one a x r = record { rises = RisesFrom-filter (λ z. not (eqb z x)) 0 a r.rises }

pub IsRising-minus : (a b : List ℕ) → IsRising a → IsRising (minus a b)
unfolding minus
IsRising-minus a b r = record { rises = RisesFrom-filter (λ z. not (is_member z b)) 0 a r.rises }

pub IsRising-intersection : (a b : List ℕ) → IsRising a → IsRising (intersection a b)
unfolding intersection
IsRising-intersection a b r = record { rises = RisesFrom-filter (λ z. is_member z b) 0 a r.rises }

RisesFrom-union : (a b : List ℕ) → RisesFrom 0 b → RisesFrom 0 (union a b)
unfolding union
RisesFrom-union [] b r = r
RisesFrom-union (x ∷ t) b r = RisesFrom-rising_insert x 0 (union t b) (omega arith) (RisesFrom-union t b r)

pub IsRising-union : (a b : List ℕ) → IsRising b → IsRising (union a b)
IsRising-union a b r = record { rises = RisesFrom-union a b r.rises }

pub ruleset set_rises = (IsRising-nil, IsRising-with_one, IsRising-without_one, IsRising-minus, IsRising-intersection, IsRising-union)

-- ---- where nothing changes

pub with_one-member : (xs : List ℕ) (x : ℕ) → IsRising xs → is_member x xs ≡ true → with_one xs x ≡ xs
with_one-member xs x r e = same_members _ _ (IsRising-with_one xs x r) r (λ k. present k)
  where
    present : (k : ℕ) → is_member k (with_one xs x) ≡ is_member k xs
    present k = elim (cases_eq k x) [
      | inl s ↦ rw (is_member-with_one, eq-eqb k x s) (sym (ap (λ z. is_member z xs) s ∙ e))
      | inr o ↦ rw (is_member-with_one, ne_eqb k x o)
    ]

-- nothing to take out
pub without_one-missing : (xs : List ℕ) (x : ℕ) → IsRising xs → is_member x xs ≡ false → without_one xs x ≡ xs
without_one-missing xs x r e = same_members _ _ (IsRising-without_one xs x r) r (λ k. let h = absent_differs xs x k e in grind (arith, set_members, h))
  where
    absent_differs : (xs : List ℕ) (x k : ℕ) → is_member x xs ≡ false → is_member k xs ≡ true → eqb k x ≡ false
    absent_differs xs x k e m = ne_eqb k x (λ s. both_ways (is_member k xs) (ap (λ z. is_member z xs) s ∙ e) m)

pub minus-none : (b : List ℕ) → minus [] b ≡ []
unfolding minus
minus-none b = refl

pub intersection-none : (b : List ℕ) → intersection [] b ≡ []
unfolding intersection
intersection-none b = refl

-- ---- sets that are not empty

pub member_from_some : (xs : List ℕ) → 0 < length xs → (x : ℕ) × (is_member x xs ≡ true)
member_from_some [] l = absurd (omega arith)
member_from_some (x ∷ xs) l = (x, is_member-head x xs)

pub some_from_member : (x : ℕ) (xs : List ℕ) → is_member x xs ≡ true → 0 < length xs
some_from_member x [] m = absurd (false≢true m)
some_from_member x (y ∷ xs) m = omega arith

-- ---- a single item

pub only_member : (x y : ℕ) → is_member x (y ∷ []) ≡ true → x ≡ y
only_member x y m = eqb-true x y (sym (or_none (eqb x y)) ∙ m)
