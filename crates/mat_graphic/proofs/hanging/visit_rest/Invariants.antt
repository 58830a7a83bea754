use Rattle.mat_graphic.proofs.Common.{IsHung}
use Rattle.mat_graphic.proofs.hanging.visit_rest.Given as goal

abbrev pub invariant-loop-at : goal.invariant-loop-at
invariant-loop-at l = IsHung l.forest l.fn.new l.at l.new
