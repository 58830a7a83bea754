use Rattle.mat_words.proofs.Common.{◌≢◌, ◌≤◌, ◌<◌, ℕ, get_or}
use Rattle.mat_words.proofs.lines.next_line.Given as goal

abbrev pub invariant-loop-i : goal.invariant-loop-i
invariant-loop-i l = (k : ℕ) → l.from ≤ k → k < l.i → get_or l.text k 0 ≢ 10
