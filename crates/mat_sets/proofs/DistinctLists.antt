-- Lists in which no item stands twice. Of n items among which each number below n stands, none stands twice, since the set of the
-- items has n members.
use Rattle.mat_sets.proofs.Common.{◌≡◌, ℕ, suc, ◌<◌, ◌≤◌, Bool, true, false, ◌&&◌, cond, List, [], ◌∷◌, length, inl, inr, refl, sym, ap, ◌∙◌, arith, cases_Bool, ltb-true, is_member, IsRising, AreDistinct, with_one, union, all_below}
use Rattle.std.specs.List.{filter}
use Rattle.mat_sets.proofs.Members.{is_member-filter, is_member-union, with_one-member, IsRising-nil, IsRising-union}
use Rattle.mat_sets.proofs.Cardinalities.{length-with_one}
use Rattle.mat_sets.proofs.Subsets.{length-subset, union-left}
use Rattle.mat_sets.proofs.Ground.{is_member-all_below, length-all_below, IsRising-all_below}
use Rattle.mat_sets.proofs.Truths.{or_none}

pub is_member-items : (x : ℕ) (xs : List ℕ) → is_member x (union xs []) ≡ is_member x xs
is_member-items x xs = is_member-union x xs [] ∙ or_none (is_member x xs)

-- the set of the items, with one item more
union-cons : (x : ℕ) (xs : List ℕ) → union (x ∷ xs) [] ≡ with_one (union xs []) x
unfolding union with_one
union-cons x xs = refl

pub items-rise : (xs : List ℕ) → IsRising (union xs [])
items-rise xs = IsRising-union xs [] IsRising-nil

-- an item that stands later again adds no member, and another adds one
again : (x : ℕ) (xs : List ℕ) → is_member x xs ≡ true → length (union (x ∷ xs) []) ≡ length (union xs [])
again x xs m = ap length (union-cons x xs ∙ with_one-member (union xs []) x (items-rise xs) (is_member-items x xs ∙ m))

new : (x : ℕ) (xs : List ℕ) → is_member x xs ≡ false → length (union (x ∷ xs) []) ≡ suc (length (union xs []))
new x xs o = ap length (union-cons x xs) ∙ length-with_one (union xs []) x (items-rise xs) (is_member-items x xs ∙ o)

-- the set of the items has at most as many members as the list has items
pub length-items : (xs : List ℕ) → length (union xs []) ≤ length xs
unfolding union
length-items [] = omega arith
length-items (x ∷ xs) = elim (cases_Bool (is_member x xs)) [
  | inl m ↦ omega (arith, again x xs m, length-items xs)
  | inr o ↦ omega (arith, new x xs o, length-items xs)
]

-- and as many only where none stands twice
pub AreDistinct-length : (xs : List ℕ) → length xs ≤ length (union xs []) → AreDistinct xs
AreDistinct-length [] l = tt
AreDistinct-length (x ∷ xs) l = elim (cases_Bool (is_member x xs)) [
  | inl m ↦ absurd (omega (arith, again x xs m, length-items xs))
  | inr o ↦ (o, AreDistinct-length xs (omega (arith, new x xs o)))
]

pub AreDistinct-covering : (n : ℕ) (xs : List ℕ) → length xs ≡ n → ((x : ℕ) → x < n → is_member x xs ≡ true) → AreDistinct xs
AreDistinct-covering n xs long each =
    AreDistinct-length xs (omega (
      arith,
      long,
      length-all_below n,
      length-subset (all_below n) (union xs []) (IsRising-all_below n) (items-rise xs) (record { inside = inside }),
    ))
  where
    inside : (x : ℕ) → is_member x (all_below n) ≡ true → is_member x (union xs []) ≡ true
    inside x m = (union-left xs []).inside x (each x (ltb-true x n (sym (is_member-all_below x n) ∙ m)))

-- what passes a test
pub AreDistinct-filter : (test : ℕ → Bool) (xs : List ℕ) → AreDistinct xs → AreDistinct (filter test xs)
AreDistinct-filter test [] d = tt
AreDistinct-filter test (x ∷ xs) d = by_cases (test x) (AreDistinct-filter test xs d.1)
  where
    by_cases : (b : Bool) → AreDistinct (filter test xs) → AreDistinct (cond b (x ∷ filter test xs) (filter test xs))
    by_cases true rest = (is_member-filter test x xs ∙ ap (λ m. m && test x) d.0, rest)
    by_cases false rest = rest
