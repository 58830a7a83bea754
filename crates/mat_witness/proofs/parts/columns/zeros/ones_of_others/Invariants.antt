-- The ones of the numbers so far.
use Rattle.mat_witness.proofs.Common.{AreOnesOfOthers}
use Rattle.mat_witness.proofs.parts.columns.zeros.ones_of_others.Given as goal

abbrev pub invariant-loop-j : goal.invariant-loop-j
invariant-loop-j l = AreOnesOfOthers l.numbers l.place l.j l.ones
