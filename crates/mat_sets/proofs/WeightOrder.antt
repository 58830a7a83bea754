-- Weights as an ordered group: what `omega` does with their components, and where two of them are one.
use borrow.Author.Differences.{up, down, same_in}
use Rattle.mat_sets.proofs.Common.{◌≡◌, ◌+◌, ◌⊎◌, ◌<ℤ◌, inl, inr, true, false, List, length, ℕ, arith, ap, cases_lt, ints, get_or_past, All-get_or, Weight, zero_weight, ◌≺◌, ◌≼◌, is_below, is_same, weight_at, IsWeightWithin, AreWeightsWithin}

-- ---- the components of equal weights

-- both components are equal
infix 4 ◌≈◌
abbrev pub ◌≈◌ : Weight → Weight → Type 0
a ≈ b = (a.main ≡ b.main) × (a.tie ≡ b.tie)

pub same_weight : {a b : Weight} → a ≈ b → a ≡ b
same_weight {a} {b} e = grind (arith, ints)

pub parts : {a b : Weight} → a ≡ b → a ≈ b
parts e = (ap (λ (z : Weight). z.main) e, ap (λ (z : Weight). z.tie) e)

-- for `omega`, as `omega (arith, ints, pairs)`: what an equation of weights says of their components, and the other way
pub pair_out : (a b : Weight) → a ≡ b
    → (up a.main ≡ up b.main) × (down a.main ≡ down b.main) × (up a.tie ≡ up b.tie) × (down a.tie ≡ down b.tie)
pair_out a b e = (ap (λ (z : Weight). up z.main) e, ap (λ (z : Weight). down z.main) e, ap (λ (z : Weight). up z.tie) e, ap (λ (z : Weight). down z.tie) e)

pub pair_in : (a b : Weight)
    → (up a.main + down b.main ≡ up b.main + down a.main) × (up a.tie + down b.tie ≡ up b.tie + down a.tie) → a ≡ b
pair_in a b h = same_weight (same_in a.main b.main h.0, same_in a.tie b.tie h.1)

pub ruleset pairs = (pair_out, pair_in)

-- ---- the order

pub at_most_or_below : (a b : Weight) → (a ≼ b) ⊎ (b ≺ a)
at_most_or_below a b = grind (arith, ints)

pub lexicographic_gives : (a b : Weight) → a ≺ b → (a.main <ℤ b.main) ⊎ ((a.main ≡ b.main) × (a.tie <ℤ b.tie))
lexicographic_gives a b h = grind (arith, ints)

pub lexicographic_from : (a b : Weight) → (a.main <ℤ b.main) ⊎ ((a.main ≡ b.main) × (a.tie <ℤ b.tie)) → a ≺ b
lexicographic_from a b h = grind (arith, ints)

pub at_most_same : (a b : Weight) → a ≡ b → a ≼ b
at_most_same a b e = omega (arith, ints, pairs)

pub at_most_trans : (a b c : Weight) → a ≼ b → b ≼ c → a ≼ c
at_most_trans a b c h k = omega (arith, ints)

pub at_most_both : (a b : Weight) → a ≼ b → b ≼ a → a ≡ b
at_most_both a b h k = omega (arith, ints, pairs)

pub at_most_not : (a b : Weight) → a ≼ b → ¬ (b ≺ a)
at_most_not a b h k = absurd (omega (arith, ints))

pub not_at_most : (a b : Weight) → ¬ (b ≺ a) → a ≼ b
not_at_most a b none = elim (at_most_or_below a b) [ inl le ↦ le | inr less ↦ absurd (none less) ]

pub by_below : {P : Type 0} (a b : Weight) → (a ≺ b → P) → (b ≼ a → P) → P
by_below a b f g = elim (at_most_or_below b a) [ inl le ↦ g le | inr less ↦ f less ]

pub below_gives : (a b : Weight) → is_below a b ≡ true → a ≺ b
below_gives a b h = grind (arith, ints)

pub below_from : (a b : Weight) → a ≺ b → is_below a b ≡ true
below_from a b h = grind (arith, ints)

pub below_at_most : (a b : Weight) → is_below a b ≡ true → a ≼ b
below_at_most a b h = let less = below_gives a b h in omega (arith, ints)

pub not_below_gives : (a b : Weight) → is_below a b ≡ false → b ≼ a
not_below_gives a b h = grind (arith, ints)

pub not_below_from : (a b : Weight) → b ≼ a → is_below a b ≡ false
not_below_from a b h = grind (arith, ints)

pub same_gives : (a b : Weight) → is_same a b ≡ true → a ≡ b
same_gives a b h = same_weight (parts_of a b h)
  where
    parts_of : (a b : Weight) → is_same a b ≡ true → a ≈ b
    parts_of a b h = grind (arith, ints)

pub same_from : (a b : Weight) → a ≡ b → is_same a b ≡ true
same_from a b e = of_parts a b (parts e)
  where
    of_parts : (a b : Weight) → a ≈ b → is_same a b ≡ true
    of_parts a b e = grind (arith, ints)

-- ---- the weight at a number

-- a weight is within the bound at each number, also past the end of the list
pub weight_within_at : (bound : ℕ) (w : List Weight) → AreWeightsWithin bound w → (e : ℕ) → IsWeightWithin bound (weight_at w e)
weight_within_at bound w all e =
    elim (cases_lt e (length w)) [
      | inl lt ↦ All-get_or (IsWeightWithin bound) w e zero_weight lt all
      | inr ge ↦ rw (get_or_past w e zero_weight ge) ((omega (arith, ints), omega (arith, ints)), (omega (arith, ints), omega (arith, ints)))
    ]
