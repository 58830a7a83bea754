use Rattle.mat_words.proofs.Common.{drop}
use Rattle.mat_words.proofs.DigitLemmas.{IsPartWritten}
use Rattle.mat_words.proofs.numbers.short_decimal_into.Given as goal

abbrev pub invariant-loop-left : goal.invariant-loop-left
invariant-loop-left l = IsPartWritten l.n l.left l.at l.end l.buffer (drop l.end l.fn.buffer)

abbrev pub decreases-loop-left : goal.decreases-loop-left
decreases-loop-left l = l.left
