-- What the code of a set does with places: a binary search, an insertion, a removal, a test of the order, and one walk
-- along two sets.
use Rattle.mat_sets.proofs.Common.{Err, List, Ok, Result, [], ap, append-nil, arith, eqb, false, get_or, inl, inr, length, not, refl, suc, sym, take, true, zero, ℕ, ◌++◌, ◌+◌, ◌-◌, ◌<◌, ◌∙◌, ◌∷◌, ◌≡◌, ◌≤◌, cases_eq, cases_lt, eq-eqb, le-ltb, lt-ltb, ne_eqb, filter_more, IsRising, RisesFrom}
use Rattle.mat_sets.proofs.Common.{intersection, is_member, minus, rising_insert, with_one, without_one}
use Rattle.std.proofs.Math.Numerals.{add-one}
use Rattle.std.proofs.lemmas.List.Sorted.{searched}
use Rattle.std.specs.List.{filter, insert, remove}
use Rattle.std.specs.List.Sorted.{IsBinarySearchResult}
use Rattle.std.specs.Ordering.{nat_cmp}
use Rattle.std.specs.Result.{MatchResult, is_ok}
use Rattle.mat_sets.specs.Places.{IsGap, IsPlace}
use Rattle.mat_sets.proofs.Members.{RisesFrom-at, RisesFrom-index, is_member-get_or, is_member-nowhere, minus-none, with_one-member, without_one-missing}

insert-rising_insert : (xs : List ℕ) (i x : ℕ) → i ≤ length xs → ((k : ℕ) → k < i → get_or xs k 0 < x)
    → ((k : ℕ) → i ≤ k → k < length xs → x < get_or xs k 0) → insert xs i x ≡ rising_insert x xs
insert-rising_insert [] zero x h b a = refl
insert-rising_insert [] (suc i) x h b a = absurd (omega arith)
insert-rising_insert (y ∷ t) zero x h b a = rw (lt-ltb x y (a 0 (omega arith) (omega arith)))
insert-rising_insert (y ∷ t) (suc i) x h b a =
    let low : y < x = b 0 (omega arith) in
    rw (le-ltb x y (omega arith), ne_eqb x y (omega arith)) (ap (λ z. y ∷ z) (insert-rising_insert t i x (omega arith) (λ k l. b (suc k) (omega arith)) (λ k l m. a (suc k) (omega arith) (omega arith))))

remove-filter : (lo : ℕ) (xs : List ℕ) (i x : ℕ) → RisesFrom lo xs → i < length xs → get_or xs i 0 ≡ x
    → remove xs i ≡ filter (λ k. not (eqb k x)) xs
remove-filter lo [] i x r h e = absurd (omega arith)
remove-filter lo (y ∷ t) zero x r h e = rw (eq-eqb y x e) (sym (nothing_out (suc y) t x r.1 (omega arith)))
  where
    nothing_out : (lo : ℕ) (t : List ℕ) (x : ℕ) → RisesFrom lo t → x < lo → filter (λ k. not (eqb k x)) t ≡ t
    nothing_out lo [] x r h = refl
    nothing_out lo (y ∷ t) x r h =
        let low : lo ≤ y = r.0 in
        rw (ne_eqb y x (omega arith)) (ap (λ z. y ∷ z) (nothing_out (suc y) t x r.1 (omega arith)))
remove-filter lo (y ∷ t) (suc i) x r h e =
    let high : suc y ≤ get_or t i 0 = RisesFrom-at (suc y) t i r.1 (omega arith) in
    rw (ne_eqb y x (omega arith)) (ap (λ z. y ∷ z) (remove-filter (suc y) t i x r.1 (omega arith) e))

-- ---- where x stands

pub is_member-place : (xs : List ℕ) (x i : ℕ) → IsPlace xs x i → is_member x xs ≡ true
is_member-place xs x i p = is_member-get_or xs i x p.inside p.found

pub remove-place : (xs : List ℕ) (x i : ℕ) → IsRising xs → IsPlace xs x i → remove xs i ≡ without_one xs x
unfolding without_one
remove-place xs x i r p = remove-filter 0 xs i x r.rises p.inside p.found

pub with_one-place : (xs : List ℕ) (x i : ℕ) → IsRising xs → IsPlace xs x i → with_one xs x ≡ xs
with_one-place xs x i r p = with_one-member xs x r (is_member-place xs x i p)

-- ---- where x would stand

pub is_member-gap : (xs : List ℕ) (x i : ℕ) → IsGap xs x i → is_member x xs ≡ false
is_member-gap xs x i g = is_member-nowhere xs x (λ k l e. elim (cases_lt k i) [ inl p ↦ absurd (omega (arith, g.below k p)) | inr q ↦ absurd (omega (arith, g.above k q l)) ])

pub insert-gap : (xs : List ℕ) (x i : ℕ) → IsGap xs x i → insert xs i x ≡ with_one xs x
unfolding with_one
insert-gap xs x i g = insert-rising_insert xs i x g.inside g.below g.above

pub without_one-gap : (xs : List ℕ) (x i : ℕ) → IsRising xs → IsGap xs x i → without_one xs x ≡ xs
without_one-gap xs x i r g = without_one-missing xs x r (is_member-gap xs x i g)

-- x is a member exactly where the answer is a place
pub is_ok-place : (xs : List ℕ) (x : ℕ) (r : Result ℕ ℕ) → MatchResult r (IsPlace xs x) (IsGap xs x)
    → is_ok r ≡ is_member x xs
is_ok-place xs x (Ok i) p = sym (is_member-place xs x i p)
is_ok-place xs x (Err i) g = sym (is_member-gap xs x i g)

-- ---- what a binary search says

pub placed : (xs : List ℕ) (x : ℕ) (r : Result ℕ ℕ) → IsRising xs → IsBinarySearchResult (λ y. nat_cmp y x) xs r
    → MatchResult r (IsPlace xs x) (IsGap xs x)
placed xs x r s h = read r (searched xs x r h (λ i j l m. elim (cases_eq i j) [ inl e ↦ omega (arith, ap (λ k. get_or xs k 0) e) | inr o ↦ omega (arith, RisesFrom-index 0 xs i j s.rises (omega arith) m) ]))
  where
    read : (r : Result ℕ ℕ)
        → MatchResult r (λ i. (i < length xs) × (get_or xs i 0 ≡ x)) (λ i. (i ≤ length xs) × ((k : ℕ) → k < i → get_or xs k 0 < x) × ((k : ℕ) → i ≤ k → k < length xs → x < get_or xs k 0))
        → MatchResult r (IsPlace xs x) (IsGap xs x)
    read (Ok i) h = record { inside = h.0; found = h.1 }
    read (Err i) h = record { inside = h.0; below = h.1; above = h.2 }

-- x is above all
pub gap_at_end : (xs : List ℕ) (x : ℕ) → IsRising xs → (0 < length xs → get_or xs (length xs - 1) 0 < x)
    → IsGap xs x (length xs)
gap_at_end xs x r h = record { inside = omega arith; below = λ k l. below k l; above = λ k l m. absurd (omega arith) }
  where
    below : (k : ℕ) → k < length xs → get_or xs k 0 < x
    below k l = elim (cases_eq k (length xs - 1)) [
      | inl e ↦ omega (arith, ap (λ z. get_or xs z 0) e, h (omega arith))
      | inr d ↦ omega (arith, RisesFrom-index 0 xs k (length xs - 1) r.rises (omega arith) (omega arith), h (omega arith))
    ]

-- ---- a list that is read from the front

rises_step : (lo : ℕ) (xs : List ℕ) (i : ℕ) → suc i < length xs → RisesFrom lo (take (suc i) xs)
    → get_or xs i 0 < get_or xs (suc i) 0 → RisesFrom lo (take (suc (suc i)) xs)
rises_step lo [] i h r l = absurd (omega arith)
rises_step lo (x ∷ []) i h r l = absurd (omega arith)
rises_step lo (x ∷ y ∷ t) zero h r l = (r.0, (omega arith, tt))
rises_step lo (x ∷ y ∷ t) (suc i) h r l = (r.0, rises_step (suc x) (y ∷ t) i (omega arith) r.1 l)

pub IsRising-more : (xs : List ℕ) (i : ℕ) → 0 < i → i < length xs → IsRising (take i xs)
    → get_or xs (i - 1) 0 < get_or xs i 0 → IsRising (take (i + 1) xs)
IsRising-more xs zero p h r l = absurd (omega arith)
IsRising-more xs (suc i) p h r l =
    let e : suc i - 1 ≡ i = omega arith in
    record { rises = rw (add-one (suc i)) (rises_step 0 xs i h r.rises (rw e at l)) }

pub ruleset rising_steps = (IsRising-more)

-- ---- the difference, by one walk along both sets

-- x is not in b: all before j are below x, and the one at j is above
pub missing_at : (b : List ℕ) (x j : ℕ) → IsRising b → ((k : ℕ) → k < j → get_or b k 0 < x)
    → (j < length b → x < get_or b j 0) → is_member x b ≡ false
missing_at b x j r low high = is_member-nowhere b x (λ k l e.
    elim (cases_lt k j) [
      | inl p ↦ absurd (omega (arith, low k p))
      | inr q ↦ elim (cases_eq k j) [
        | inl same ↦ absurd (omega (arith, ap (λ z. get_or b z 0) same, high (omega arith)))
        | inr other ↦ absurd (omega (arith, high (omega arith), RisesFrom-index 0 b j k r.rises (omega arith) l))
      ]
    ])

pub minus-skip : (a b : List ℕ) (i : ℕ) → i < length a → is_member (get_or a i 0) b ≡ true
    → minus (take (i + 1) a) b ≡ minus (take i a) b
unfolding minus
minus-skip a b i h m = filter_more (λ k. not (is_member k b)) a i 0 h ∙ rw m (append-nil (filter (λ k. not (is_member k b)) (take i a)))

pub minus-take : (a b : List ℕ) (i : ℕ) → i < length a → is_member (get_or a i 0) b ≡ false
    → minus (take (i + 1) a) b ≡ minus (take i a) b ++ get_or a i 0 ∷ []
unfolding minus
minus-take a b i h m = filter_more (λ k. not (is_member k b)) a i 0 h ∙ rw m

pub intersection-skip : (a b : List ℕ) (i : ℕ) → i < length a → is_member (get_or a i 0) b ≡ false
    → intersection (take (i + 1) a) b ≡ intersection (take i a) b
unfolding intersection
intersection-skip a b i h m =
    filter_more (λ k. is_member k b) a i 0 h ∙ rw m (append-nil (filter (λ k. is_member k b) (take i a)))

pub ruleset merging = (minus-skip, minus-take, minus-none, missing_at, is_member-get_or)
