-- Finite sets of numbers, as strictly rising lists (Schrijver, chapter 2).
use Rattle.std.specs.Prelude.{◌≡◌, ℕ, zero, suc, ◌<◌, ◌≤◌, Bool, true, false, not, ◌||◌, ◌==◌, nat_lt, if◌then◌else◌, List, [], ◌∷◌, filter}

-- whether x is one of the items
abbrev pub is_member : ℕ → List ℕ → Bool
is_member x [] = false
is_member x (y ∷ ys) = x == y || is_member x ys

-- each item is at least `lo`, and above the one before it
abbrev pub RisesFrom : ℕ → List ℕ → Type 0
RisesFrom lo [] = Unit {0}
RisesFrom lo (x ∷ xs) = (lo ≤ x) × RisesFrom (suc x) xs

-- the list rises strictly
pub record IsRising (xs : List ℕ) : Type 0 where
  pub rises : RisesFrom 0 xs

-- each item is below n
abbrev pub AllBelow : ℕ → List ℕ → Type 0
AllBelow n [] = Unit {0}
AllBelow n (x ∷ xs) = (x < n) × AllBelow n xs

-- a set on n elements: a strictly rising list of numbers below n
pub record IsSet (n : ℕ) (xs : List ℕ) : Type 0 where
  pub rising : IsRising xs
  pub below : AllBelow n xs

-- each member of a is one of b
pub record IsSubset (a b : List ℕ) : Type 0 where
  pub inside : (x : ℕ) → is_member x a ≡ true → is_member x b ≡ true

-- no item stands twice
abbrev pub AreDistinct : List ℕ → Type 0
AreDistinct [] = Unit {0}
AreDistinct (x ∷ xs) = (is_member x xs ≡ false) × AreDistinct xs

-- x put into its place in a rising list
abbrev pub rising_insert : ℕ → List ℕ → List ℕ
rising_insert x [] = x ∷ []
rising_insert x (y ∷ ys) = if nat_lt x y then x ∷ y ∷ ys else y ∷ (if x == y then ys else rising_insert x ys)

-- the set a + x
unfoldable pub with_one : List ℕ → ℕ → List ℕ
with_one a x = rising_insert x a

-- the set a - x
unfoldable pub without_one : List ℕ → ℕ → List ℕ
without_one a x = filter (λ y. not (y == x)) a

-- the members of a that are not in b
unfoldable pub minus : List ℕ → List ℕ → List ℕ
minus a b = filter (λ x. not (is_member x b)) a

-- the members of both
unfoldable pub intersection : List ℕ → List ℕ → List ℕ
intersection a b = filter (λ x. is_member x b) a

-- the members of either: b is a set, and a may be any list
unfoldable pub union : List ℕ → List ℕ → List ℕ
union [] b = b
union (x ∷ xs) b = rising_insert x (union xs b)

-- the n numbers from `lo` on, one after the other
abbrev pub counted_from : ℕ → ℕ → List ℕ
counted_from lo zero = []
counted_from lo (suc n) = lo ∷ counted_from (suc lo) n

-- the set of all numbers below n
unfoldable pub all_below : ℕ → List ℕ
all_below n = counted_from 0 n
