-- Numbers by what they weigh, so that their order does not count, and each counts as often as it stands in a list.
use Rattle.std.specs.Prelude.{ℕ, zero, suc, ◌+◌, nat_lt, if◌then◌else◌}

-- the weights of the numbers below n, added up
abbrev pub sum_below : (ℕ → ℕ) → ℕ → ℕ
sum_below h zero = 0
sum_below h (suc n) = sum_below h n + h n

-- 1 for a number that is not below the count, else 0
abbrev pub beyond : ℕ → ℕ → ℕ
beyond count x = if nat_lt x count then 0 else 1
