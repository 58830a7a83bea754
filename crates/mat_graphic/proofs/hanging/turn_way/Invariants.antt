use Rattle.mat_graphic.proofs.HungTrees.{IsTurning}
use Rattle.mat_graphic.proofs.hanging.turn_way.Given as goal

abbrev pub invariant-loop-before : goal.invariant-loop-before
invariant-loop-before l = IsTurning l.forest l.edge l.first l.second l.fn.new l.at l.through l.below l.new

abbrev pub decreases-loop-before : goal.decreases-loop-before
decreases-loop-before l = l.at
