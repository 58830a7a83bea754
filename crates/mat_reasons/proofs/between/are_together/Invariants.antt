-- None of the classes so far holds both.
use Rattle.mat_reasons.proofs.Common.{◌≡◌, false, take, are_together}
use Rattle.mat_reasons.proofs.between.are_together.Given as goal

abbrev pub invariant-loop-i : goal.invariant-loop-i
invariant-loop-i l = are_together (take l.i l.classes) l.first l.second ≡ false
