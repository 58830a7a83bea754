use Rattle.mat_words.proofs.Common.{◌≢◌, ◌<◌, ℕ, get_or}
use Rattle.mat_words.proofs.WordLemmas.{IsWalked}
use Rattle.mat_words.proofs.lines.spaced_line_end.Given as goal

-- the walk has come to the byte, and no line ended before it
abbrev pub invariant-loop-i : goal.invariant-loop-i
invariant-loop-i l = record {
  walked : IsWalked l.text l.i l.at_start;
  inside : (k : ℕ) → k < l.i → get_or l.text k 0 ≢ 10;
}
