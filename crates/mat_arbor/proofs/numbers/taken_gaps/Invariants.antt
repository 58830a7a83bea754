use Rattle.mat_arbor.proofs.Gaps.{AreTaken}
use Rattle.mat_arbor.proofs.numbers.taken_gaps.Given as goal

abbrev pub invariant-loop-x : goal.invariant-loop-x
invariant-loop-x l = AreTaken l.unit l.held l.x-index l.taken
