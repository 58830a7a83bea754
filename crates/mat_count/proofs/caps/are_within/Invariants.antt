use Rattle.mat_count.proofs.Common.{ℕ, ◌<◌, ◌≤◌, get_or}
use Rattle.mat_count.proofs.caps.are_within.Given as goal

abbrev pub invariant-loop-i : goal.invariant-loop-i
invariant-loop-i l = (k : ℕ) → k < l.i → get_or l.numbers k 0 ≤ get_or l.caps k 0
