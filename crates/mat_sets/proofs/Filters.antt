-- Filters of a list: by a test that each item passes, or none; collected item by item in rising order; and over a union of two sets.
use Rattle.mat_sets.proofs.Common.{◌≡◌, ℕ, ◌+◌, ◌<◌, Bool, true, false, ◌&&◌, ◌||◌, eqb, List, [], ◌∷◌, length, get_or, take, refl, sym, ap, ◌∙◌, inl, inr, append-nil, not, arith, cases_eq, both_ways, ne_eqb, or_right, and_parts, filter_more, is_member, IsRising, minus, union, with_one}
use Rattle.std.specs.List.{filter}
use Rattle.mat_sets.proofs.DisjointSets.{no_members}
use Rattle.mat_sets.proofs.Members.{same_members, is_member-head, is_member-filter, is_member-with_one, RisesFrom-filter, IsRising-with_one, is_member-minus, is_member-union, IsRising-minus, IsRising-union}
use Rattle.mat_sets.proofs.Steps.{IsRising-take, is_member-take_more}

-- a test that each item passes keeps them all
pub filter_whole : (p : ℕ → Bool) (xs : List ℕ) → ((y : ℕ) → is_member y xs ≡ true → p y ≡ true) → filter p xs ≡ xs
filter_whole p [] h = refl
filter_whole p (x ∷ xs) h =
    rw (h x (is_member-head x xs)) (ap (λ t. x ∷ t) (filter_whole p xs (λ y m. h y (or_right (eqb y x) (is_member y xs) m))))

-- a test that no item passes keeps none
pub filter_none : (p : ℕ → Bool) (xs : List ℕ) → ((y : ℕ) → p y ≡ false) → filter p xs ≡ []
filter_none p xs fails = no_members _ (λ y m. both_ways _ (fails y) (and_parts (is_member y xs) (p y) (sym (is_member-filter p y xs) ∙ m)).1)

pub IsRising-filter : (p : ℕ → Bool) (xs : List ℕ) → IsRising xs → IsRising (filter p xs)
IsRising-filter p xs r = record { rises = RisesFrom-filter p 0 xs r.rises }

-- ---- item by item

-- those found before a place rise
pub IsRising-found : (p : ℕ → Bool) (xs found : List ℕ) (i : ℕ) → IsRising xs → found ≡ filter p (take i xs) → IsRising found
IsRising-found p xs found i r is = rw is (IsRising-filter p (take i xs) (IsRising-take xs i r))

-- the next item passes
pub filter-found : (p : ℕ → Bool) (xs : List ℕ) (i : ℕ) → IsRising xs → i < length xs → p (get_or xs i 0) ≡ true
    → with_one (filter p (take i xs)) (get_or xs i 0) ≡ filter p (take (i + 1) xs)
filter-found p xs i r l passes =
    same_members _ _ (IsRising-with_one _ x (IsRising-filter p (take i xs) (IsRising-take xs i r)))
    (IsRising-filter p (take (i + 1) xs) (IsRising-take xs (i + 1) r))
    (λ k. is_member-with_one k x (filter p (take i xs)) ∙ ap (λ b. eqb k x || b) (is_member-filter p k (take i xs))
    ∙ at k (is_member k (take i xs)) ∙ ap (λ b. b && p k) (sym (is_member-take_more xs i k l))
    ∙ sym (is_member-filter p k (take (i + 1) xs)))
  where
    x : ℕ
    x = get_or xs i 0

    swap : (a b c : Bool) → (a ≡ true → c ≡ true) → (a || (b && c)) ≡ ((b || a) && c)
    swap true true c h = sym (h refl)
    swap true false c h = sym (h refl)
    swap false true c h = refl
    swap false false c h = refl

    at : (k : ℕ) (b : Bool) → (eqb k x || (b && p k)) ≡ ((b || eqb k x) && p k)
    at k b = elim (cases_eq k x) [
      | inl same ↦ swap (eqb k x) b (p k) (λ h. ap p same ∙ passes)
      | inr other ↦ swap (eqb k x) b (p k) (λ h. absurd (both_ways (eqb k x) (ne_eqb k x other) h))
    ]

-- the next item fails
pub filter-passed : (p : ℕ → Bool) (xs : List ℕ) (i : ℕ) → i < length xs → p (get_or xs i 0) ≡ false
    → filter p (take i xs) ≡ filter p (take (i + 1) xs)
filter-passed p xs i l fails = sym (filter_more p xs i 0 l ∙ rw fails (append-nil (filter p (take i xs))))

-- ---- two sets

-- a filter over two sets, the second of which is left out again
pub filter_first : (f h : ℕ → Bool) (X B : List ℕ) → IsRising X → IsRising B → ((y : ℕ) → is_member y X ≡ true → is_member y B ≡ false)
    → ((y : ℕ) → is_member y X ≡ true → f y ≡ h y) → minus (filter f (union X B)) B ≡ filter h X
filter_first f h X B r s apart agree =
    same_members _ _ (IsRising-minus _ B (IsRising-filter f (union X B) (IsRising-union X B s))) (IsRising-filter h X r) (λ y.
    is_member-minus y (filter f (union X B)) B
    ∙ ap (λ b. b && not (is_member y B)) (is_member-filter f y (union X B) ∙ ap (λ b. b && f y) (is_member-union y X B))
    ∙ sides (is_member y X) (is_member y B) (f y) (h y) (apart y) (agree y) ∙ sym (is_member-filter h y X))
  where
    sides : (a b c d : Bool) → (a ≡ true → b ≡ false) → (a ≡ true → c ≡ d) → (((a || b) && c) && not b) ≡ (a && d)
    sides true b c d out e = let o = out refl in let k = e refl in grind arith
    sides false true true d out e = refl
    sides false true false d out e = refl
    sides false false c d out e = refl
