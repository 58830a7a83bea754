-- The draws of a multiplicative congruential generator (Lehmer; Park and Miller 1988, with the multiplier of Park, Miller and Stockmeyer 1993).
use Rattle.std.specs.Prelude.{ℕ, zero, suc, ◌*◌, ◌%◌}

-- the state after one step
abbrev pub next_state : ℕ → ℕ
next_state x = (x * 48271) % 2147483647

-- the state after k steps
unfoldable pub state_after : ℕ → ℕ → ℕ
state_after seed zero = seed
state_after seed (suc k) = next_state (state_after seed k)

-- draw k, counted from 0, below m
abbrev pub draw : ℕ → ℕ → ℕ → ℕ
draw seed k m = state_after seed (suc k) % m
