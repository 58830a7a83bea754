use Rattle.mat_flow.proofs.Common.{◌-◌, length}
use Rattle.mat_flow.proofs.TrailReading.{IsReading}
use Rattle.mat_flow.proofs.trails.path_from.Given as goal

abbrev pub invariant-loop-at : goal.invariant-loop-at
invariant-loop-at l = IsReading l.after l.start l.path.items l.at

abbrev pub decreases-loop-at : goal.decreases-loop-at
decreases-loop-at l = length l.after - length l.path.items
