-- Bounds on both numbers of weights.
use Rattle.mat_exchange.proofs.Common.{◌≡◌, ℕ, ◌+◌, ◌*◌, ◌^◌, ◌<◌, ◌≤◌, List, length, sym, arith, ints, most_elements, largest_weight, split_room, zero_weight, ◌⊕◌, ◌⊖◌, weight_at, IsWeightWithin, AreWeightsWithin, Weight, pairs}
use Rattle.std.proofs.lemmas.List.Elements.{All-from_get_or}

pub IsWeightWithin-weaken : (a b : ℕ) (z : Weight) → a ≤ b → IsWeightWithin a z → IsWeightWithin b z
IsWeightWithin-weaken a b z le within = omega (arith, ints)

pub AreWeightsWithin-from : (bound n : ℕ) (w : List Weight) → length w ≡ n → ((x : ℕ) → x < n → IsWeightWithin bound (weight_at w x)) → AreWeightsWithin bound w
AreWeightsWithin-from bound n w long each = All-from_get_or (IsWeightWithin bound) w zero_weight (λ x l. each x (rw (sym long) l))

pub difference_within : (a b c : ℕ) (x y d : Weight) → a + b ≤ c → d ≡ x ⊖ y → IsWeightWithin a x → IsWeightWithin b y → IsWeightWithin c d
difference_within a b c x y d le e hx hy = omega (arith, ints, pairs)

-- the halves of small weights, after a growth on few elements from halves within the largest split
pub second_within : (z : Weight) (n : ℕ) → n ≤ most_elements → IsWeightWithin (split_room + 4 * 10 ^ 12 * n) z → IsWeightWithin (10 ^ 26) z
second_within z n few within = omega (arith, ints)

pub first_within : (a z w : Weight) → a ⊕ z ≡ w → IsWeightWithin largest_weight w → IsWeightWithin (10 ^ 26) z → IsWeightWithin (10 ^ 27) a
first_within a z w e small within = omega (arith, ints, pairs)
