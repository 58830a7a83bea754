use Rattle.mat_words.proofs.Common.{◌≢◌, ◌<◌, ℕ, get_or}
use Rattle.mat_words.proofs.words.split_at_byte.Given as goal

abbrev pub invariant-loop-i : goal.invariant-loop-i
invariant-loop-i l = (k : ℕ) → k < l.i → get_or l.bytes k 0 ≢ l.stop
