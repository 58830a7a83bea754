-- Weights of elements: pairs of whole numbers, of which the second breaks ties. They are added by component and compared in
-- lexicographic order (Schrijver, chapter 2).
use Rattle.std.specs.Prelude.{◌≡◌, ℕ, Bool, ◌||◌, ◌&&◌, List, slice_index_or, pos, ◌+ℤ◌, ◌-ℤ◌, ◌<ℤ◌, ◌≤ℤ◌, neg_ℤ, int_lt, All}
use Rattle.std.specs.Ordering.{int_eq}
use Rattle.mat_sets.specs.Sums.{sum_of, IsWithin}
use Rattle.mat_sets.specs.declared.weight.Weight.{Weight}

-- no weight: 0 for both numbers
abbrev pub zero_weight : Weight
zero_weight = record { main = pos 0; tie = pos 0 }

infixl 6 ◌⊕◌
-- the sum of two weights
abbrev pub ◌⊕◌ : Weight → Weight → Weight
a ⊕ b = record { main = a.main +ℤ b.main; tie = a.tie +ℤ b.tie }

-- the negative of a weight
abbrev pub negated : Weight → Weight
negated a = record { main = neg_ℤ a.main; tie = neg_ℤ a.tie }

infixl 6 ◌⊖◌
-- by how much one weight exceeds another
abbrev pub ◌⊖◌ : Weight → Weight → Weight
a ⊖ b = record { main = a.main -ℤ b.main; tie = a.tie -ℤ b.tie }

infix 4 ◌≺◌
-- a is below b: its main is at most that of b and, where the mains are equal, its tie is below that of b
abbrev pub ◌≺◌ : Weight → Weight → Type 0
a ≺ b = (a.main ≤ℤ b.main) × (a.main ≡ b.main → a.tie <ℤ b.tie)

infix 4 ◌≼◌
-- a is at most b: its main is at most that of b and, where the mains are equal, so is its tie
abbrev pub ◌≼◌ : Weight → Weight → Type 0
a ≼ b = (a.main ≤ℤ b.main) × (a.main ≡ b.main → a.tie ≤ℤ b.tie)

-- whether a is below b: its main is below, or the mains are equal and its tie is below
abbrev pub is_below : Weight → Weight → Bool
is_below a b = int_lt a.main b.main || (int_eq a.main b.main && int_lt a.tie b.tie)

-- whether a and b are the same
abbrev pub is_same : Weight → Weight → Bool
is_same a b = int_eq a.main b.main && int_eq a.tie b.tie

-- the weight of an element, where a list has one for each
abbrev pub weight_at : List Weight → ℕ → Weight
weight_at w x = slice_index_or w x zero_weight

-- the sum of w over the items: that of the mains, and that of the ties
abbrev pub weight_sum : (ℕ → Weight) → List ℕ → Weight
weight_sum w xs = record { main = sum_of (λ x. (w x).main) xs; tie = sum_of (λ x. (w x).tie) xs }

-- the weight of a set: the sum of w over its members
abbrev pub weight : List Weight → List ℕ → Weight
weight w xs = weight_sum (weight_at w) xs

-- both numbers of the weight are at least -bound and at most bound
abbrev pub IsWeightWithin : ℕ → Weight → Type 0
IsWeightWithin bound a = IsWithin bound a.main × IsWithin bound a.tie

-- and so for each weight
abbrev pub AreWeightsWithin : ℕ → List Weight → Type 0
AreWeightsWithin bound weights = All (IsWeightWithin bound) weights

-- whether two parts of the weights add up to the weight of e
abbrev pub adds_up : List Weight → List Weight → List Weight → ℕ → Bool
adds_up first second w e = is_same (weight_at first e ⊕ weight_at second e) (weight_at w e)
