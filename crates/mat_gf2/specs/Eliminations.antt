-- The algorithm's own notions, by which its private functions are told: elimination with a list of columns (Gauss). No public contract
-- but that of what is kept rests on them.
use Rattle.std.specs.Prelude.{ℕ, nat_lt, if◌then◌else◌, List, [], ◌∷◌}
use Rattle.std.specs.Int.Bits.{bit_xor}

-- v reduced by b: the smaller of v and v + b, in which the highest bit of b is clear
abbrev pub reduced : ℕ → ℕ → ℕ
reduced v b = if nat_lt (bit_xor v b) v then bit_xor v b else v

-- what is left of v when it is reduced by each of the basis in turn
abbrev pub reduced_by : List ℕ → ℕ → ℕ
reduced_by [] v = v
reduced_by (b ∷ basis) v = reduced_by basis (reduced v b)

-- what is left of v by elimination: v reduced by what is left of each column of X, from the last to the first
unfoldable pub remainder : (ℕ → ℕ) → List ℕ → ℕ → ℕ
remainder column [] v = v
remainder column (e ∷ X) v = reduced (remainder column X v) (remainder column X (column e))
