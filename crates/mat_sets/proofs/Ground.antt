-- Sets on n elements: the set of all numbers below n, complements, and unions with a list in any order.
use Rattle.mat_sets.proofs.Common.{Bool, List, [], ap, arith, eqb, false, get_or, inl, inr, leb, length, ltb, map, refl, suc, sym, true, zero, ℕ, ◌&&◌, ◌++◌, ◌+◌, ◌<◌, ◌||◌, ◌∙◌, ◌∷◌, ◌≡◌, ◌≤◌, and_parts, and_right, both_ways, cases_lt, cases_order, eq-eqb, eqb-true, false≢true, le-leb, le-ltb}
use Rattle.mat_sets.proofs.Common.{lt-leb, lt-ltb, ltb-true, ne_eqb, or_cases, get_or-map, length-map, map-append, AllBelow, AreDistinct, IsRising, IsSet, IsSubset, RisesFrom, all_below, counted_from, intersection, is_member, minus, rising_insert, union, with_one, without_one}
use Rattle.std.proofs.Math.Numerals.{add-one}
use Rattle.std.specs.List.{filter}
use Rattle.mat_sets.proofs.Cardinalities.{length-minus-intersection, length-with_one}
use Rattle.mat_sets.proofs.Members.{IsRising-intersection, IsRising-minus, IsRising-nil, IsRising-union, IsRising-with_one, IsRising-without_one, is_member-filter, is_member-head, is_member-union, is_member-with_one, missing_below, same_members, set_members}
use Rattle.mat_sets.proofs.Subsets.{intersection-left, length-subset, minus-IsSubset, union-IsSubset, without_one-IsSubset}

-- ---- each item is below n

pub AllBelow-member : (n : ℕ) (a : List ℕ) (k : ℕ) → AllBelow n a → is_member k a ≡ true → k < n
AllBelow-member n [] k b h = absurd (both_ways false refl h)
AllBelow-member n (x ∷ t) k b h = elim (or_cases (eqb k x) (is_member k t) h) [
  | inl e ↦ omega (arith, eqb-true k x e, b.0)
  | inr m ↦ AllBelow-member n t k b.1 m
]

pub AllBelow-from_members : (n : ℕ) (a : List ℕ) → ((k : ℕ) → is_member k a ≡ true → k < n) → AllBelow n a
AllBelow-from_members n [] h = tt
AllBelow-from_members n (x ∷ t) h = (h x (is_member-head x t), AllBelow-from_members n t (λ k m. h k (grind arith)))

pub AllBelow-subset : (n : ℕ) (a b : List ℕ) → IsSubset a b → AllBelow n b → AllBelow n a
AllBelow-subset n a b s h = AllBelow-from_members n a (λ k m. AllBelow-member n b k h (s.inside k m))

pub AllBelow-append : (n : ℕ) (xs ys : List ℕ) → AllBelow n xs → AllBelow n ys → AllBelow n (xs ++ ys)
AllBelow-append n [] ys a b = b
AllBelow-append n (x ∷ xs) ys a b = (a.0, AllBelow-append n xs ys a.1 b)

pub AllBelow-filter : (n : ℕ) (test : ℕ → Bool) (xs : List ℕ) → AllBelow n xs → AllBelow n (filter test xs)
AllBelow-filter n test xs b = AllBelow-from_members n (filter test xs)
    (λ k m. AllBelow-member n xs k b (and_parts (is_member k xs) (test k) (sym (is_member-filter test k xs) ∙ m)).0)

-- ---- sets on n elements

-- a member of a set on n elements is below n
pub below_member : {n : ℕ} {a : List ℕ} {x : ℕ} → IsSet n a → is_member x a ≡ true → x < n
below_member {n} {a} {x} s m = AllBelow-member n a x s.below m

pub IsSet-from : (n : ℕ) (a : List ℕ) → IsRising a → ((x : ℕ) → is_member x a ≡ true → x < n) → IsSet n a
IsSet-from n a r h = record { rising = r; below = AllBelow-from_members n a h }

pub IsSet-subset : (n : ℕ) (a b : List ℕ) → IsRising a → IsSubset a b → IsSet n b → IsSet n a
IsSet-subset n a b r s q = record { rising = r; below = AllBelow-subset n a b s q.below }

pub IsSet-nil : (n : ℕ) → IsSet n []
IsSet-nil n = record { rising = IsRising-nil; below = tt }

pub IsSet-with_one : (n : ℕ) (a : List ℕ) (x : ℕ) → IsSet n a → x < n → IsSet n (with_one a x)
IsSet-with_one n a x s h = IsSet-from n _ (IsRising-with_one a x s.rising) (λ y m. either_below n a x y s h (sym (is_member-with_one y x a) ∙ m))
  where
    either_below : (n : ℕ) (a : List ℕ) (x y : ℕ) → IsSet n a → x < n → (eqb y x || is_member y a) ≡ true → y < n
    either_below n a x y s h m = elim (or_cases (eqb y x) (is_member y a) m) [ inl e ↦ omega (arith, eqb-true y x e) | inr k ↦ below_member s k ]

pub IsSet-without_one : (n : ℕ) (a : List ℕ) (x : ℕ) → IsSet n a → IsSet n (without_one a x)
IsSet-without_one n a x s = IsSet-subset n _ a (IsRising-without_one a x s.rising) (without_one-IsSubset a x) s

pub IsSet-minus : (n : ℕ) (a b : List ℕ) → IsSet n a → IsSet n (minus a b)
IsSet-minus n a b s = IsSet-subset n _ a (IsRising-minus a b s.rising) (minus-IsSubset a b) s

pub IsSet-intersection : (n : ℕ) (a b : List ℕ) → IsSet n a → IsSet n (intersection a b)
IsSet-intersection n a b s = IsSet-subset n _ a (IsRising-intersection a b s.rising) (intersection-left a b) s

-- a may be any list
pub IsSet-union : (n : ℕ) (a b : List ℕ) → AllBelow n a → IsSet n b → IsSet n (union a b)
IsSet-union n a b h s = IsSet-from n _ (IsRising-union a b s.rising) (λ x m. either_below n a b x h s (sym (is_member-union x a b) ∙ m))
  where
    either_below : (n : ℕ) (a b : List ℕ) (x : ℕ) → AllBelow n a → IsSet n b → (is_member x a || is_member x b) ≡ true
        → x < n
    either_below n a b x h s m = elim (or_cases (is_member x a) (is_member x b) m) [ inl k ↦ AllBelow-member n a x h k | inr k ↦ below_member s k ]

-- ---- all numbers below n

pub RisesFrom-counted_from : (lo n : ℕ) → RisesFrom lo (counted_from lo n)
RisesFrom-counted_from lo zero = tt
RisesFrom-counted_from lo (suc n) = (omega arith, RisesFrom-counted_from (suc lo) n)

counted_step : (lo n : ℕ) → counted_from lo (suc n) ≡ counted_from lo n ++ (lo + n) ∷ []
counted_step lo zero = ap (λ z. z ∷ []) (omega arith)
counted_step lo (suc n) = let e : suc lo + n ≡ lo + suc n = omega arith in ap (λ z. lo ∷ z) (rw e at (counted_step (suc lo) n))

pub all_below-more : (n : ℕ) → all_below (n + 1) ≡ all_below n ++ n ∷ []
unfolding all_below
all_below-more n = rw add-one (let e : 0 + n ≡ n = omega arith in rw e at (counted_step 0 n))

pub IsRising-all_below : (n : ℕ) → IsRising (all_below n)
unfolding all_below
IsRising-all_below n = record { rises = RisesFrom-counted_from 0 n }

pub all_below-none : all_below 0 ≡ []
unfolding all_below
all_below-none = refl

is_member-counted_from : (k lo n : ℕ) → is_member k (counted_from lo n) ≡ (leb lo k && ltb k (lo + n))
is_member-counted_from k lo zero = elim (cases_lt k lo) [
  | inl p ↦ rw (lt-leb lo k p)
  | inr q ↦ rw (le-ltb k (lo + 0) (omega arith)) (sym (and_right (leb lo k) false refl))
]
is_member-counted_from k lo (suc n) = elim (cases_order k lo) [
  | inl e ↦ rw (eq-eqb k lo e, le-leb lo k (omega arith), lt-ltb k (lo + suc n) (omega arith))
  | inr (inl p) ↦ rw (ne_eqb k lo (omega arith), lt-leb lo k p, is_member-counted_from k (suc lo) n, lt-leb (suc lo) k (omega arith))
  | inr (inr q) ↦
      let same : suc lo + n ≡ lo + suc n = omega arith in
      rw (ne_eqb k lo (omega arith), le-leb lo k (omega arith), is_member-counted_from k (suc lo) n, le-leb (suc lo) k (omega arith)) (ap (λ z. ltb k z) same)
]

pub is_member-all_below : (k n : ℕ) → is_member k (all_below n) ≡ ltb k n
unfolding all_below
is_member-all_below k n = let e : 0 + n ≡ n = omega arith in is_member-counted_from k 0 n ∙ rw (le-leb 0 k (omega arith)) (ap (λ z. ltb k z) e)

pub length-all_below : (n : ℕ) → length (all_below n) ≡ n
unfolding all_below
length-all_below n = length_counted 0 n
  where
    length_counted : (lo n : ℕ) → length (counted_from lo n) ≡ n
    length_counted lo zero = refl
    length_counted lo (suc n) = ap suc (length_counted (suc lo) n)

-- the item at place i is i
get_or-counted_from : (lo n i d : ℕ) → i < n → get_or (counted_from lo n) i d ≡ lo + i
get_or-counted_from lo zero i d h = absurd (omega arith)
get_or-counted_from lo (suc n) zero d h = omega arith
get_or-counted_from lo (suc n) (suc i) d h = let rest = get_or-counted_from (suc lo) n i d (omega arith) in omega arith

pub get_or-all_below : (n i d : ℕ) → i < n → get_or (all_below n) i d ≡ i
unfolding all_below
get_or-all_below n i d h = let e = get_or-counted_from 0 n i d h in omega arith

pub IsSubset-all_below : (n : ℕ) (a : List ℕ) → AllBelow n a → IsSubset a (all_below n)
IsSubset-all_below n a b = record { inside = λ k h. is_member-all_below k n ∙ lt-ltb k n (AllBelow-member n a k b h) }

pub IsSet-all_below : (n : ℕ) → IsSet n (all_below n)
IsSet-all_below n = record { rising = IsRising-all_below n; below = AllBelow-from_members n (all_below n) (λ x m. ltb-true x n (sym (is_member-all_below x n) ∙ m)) }

-- ---- lists made number by number

pub length-map_all_below : {A : Type 0} (f : ℕ → A) (n : ℕ) → length (map f (all_below n)) ≡ n
length-map_all_below f n = length-map (all_below n) f ∙ length-all_below n

pub get_or-map_all_below : {A : Type 0} (f : ℕ → A) (n i : ℕ) (d : A) → i < n → get_or (map f (all_below n)) i d ≡ f i
get_or-map_all_below f n i d l = get_or-map f (all_below n) i 0 d (rw (length-all_below n) l) ∙ ap f (get_or-all_below n i 0 l)

pub map-all_below_none : {A : Type 0} (f : ℕ → A) → map f (all_below 0) ≡ []
map-all_below_none f = ap (map f) all_below-none

pub map-all_below_more : {A : Type 0} (f : ℕ → A) (n : ℕ) → map f (all_below (n + 1)) ≡ map f (all_below n) ++ f n ∷ []
map-all_below_more f n = ap (map f) (all_below-more n) ∙ map-append f (all_below n) (n ∷ [])

pub ruleset counting = (all_below-more, all_below-none, IsRising-all_below, IsSet-all_below)

-- ---- complements

intersection-inside : (a e : List ℕ) → IsRising a → IsRising e → IsSubset a e → intersection e a ≡ a
intersection-inside a e r q s = same_members _ _ (IsRising-intersection e a q) r (λ k. grind (arith, set_members, s.inside k))

pub length-complement : (n : ℕ) (a : List ℕ) → IsRising a → AllBelow n a
    → length (minus (all_below n) a) + length a ≡ n
length-complement n a r b =
    let e = IsRising-all_below n in
    omega (arith, length-minus-intersection (all_below n) a e, ap length (intersection-inside a (all_below n) r e (IsSubset-all_below n a b)), length-all_below n)

-- a set on n elements has at most n members
pub IsSet-length : (n : ℕ) (a : List ℕ) → IsSet n a → length a ≤ n
IsSet-length n a s = omega (arith, length-complement n a s.rising s.below)

-- ---- a list without repetition, in any order

pub length-union_distinct : (xs b : List ℕ) → IsRising b → AreDistinct xs
    → ((k : ℕ) → is_member k xs ≡ true → is_member k b ≡ false) → length (union xs b) ≡ length xs + length b
unfolding union with_one
length-union_distinct [] b r d apart = omega arith
length-union_distinct (x ∷ t) b r d apart =
    let fresh : is_member x (union t b) ≡ false = let h = apart x (is_member-head x t) in let d0 = d.0 in rw (is_member-union x t b, d0, h) in
    let one = added (union t b) x (IsRising-union t b r) fresh in
    omega (arith, one, length-union_distinct t b r d.1 (λ k m. apart k (grind arith)))
  where
    added : (a : List ℕ) (x : ℕ) → IsRising a → is_member x a ≡ false → length (rising_insert x a) ≡ suc (length a)
    added a x r h = length-with_one a x r h

pub AreDistinct-rising : (a : List ℕ) → IsRising a → AreDistinct a
AreDistinct-rising a r = from_rising 0 a r.rises
  where
    from_rising : (lo : ℕ) (a : List ℕ) → RisesFrom lo a → AreDistinct a
    from_rising lo [] r = tt
    from_rising lo (x ∷ xs) r = (missing_below x (suc x) xs (omega arith) r.1, from_rising (suc x) xs r.1)

-- the set of its items
pub length-distinct : (xs : List ℕ) → AreDistinct xs → length (union xs []) ≡ length xs
length-distinct xs d = omega (arith, length-union_distinct xs [] IsRising-nil d (λ k m. refl))

pub length-distinct_subset : (xs a : List ℕ) → AreDistinct xs → IsRising a → IsSubset xs a → length xs ≤ length a
length-distinct_subset xs a d r s =
    omega (arith, length-distinct xs d, length-subset (union xs []) a (IsRising-union xs [] IsRising-nil) r (union-IsSubset xs [] a s (record { inside = λ k m. absurd (false≢true m) })))

pub length-distinct_below : (n : ℕ) (xs : List ℕ) → AreDistinct xs → AllBelow n xs → length xs ≤ n
length-distinct_below n xs d b = omega (arith, length-distinct_subset xs (all_below n) d (IsRising-all_below n) (IsSubset-all_below n xs b), length-all_below n)
