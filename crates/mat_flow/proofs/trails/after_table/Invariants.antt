use Rattle.mat_flow.proofs.TrailReading.{IsReversing}
use Rattle.mat_flow.proofs.trails.after_table.Given as goal

abbrev pub invariant-loop-v : goal.invariant-loop-v
invariant-loop-v l = IsReversing l.before l.v l.after.items
