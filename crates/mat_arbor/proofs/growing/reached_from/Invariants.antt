use Rattle.mat_arbor.proofs.Common.{◌-◌, suc, length, ends_of, IsGrownTree}
use Rattle.mat_arbor.proofs.growing.reached_from.Given as goal

abbrev pub invariant-loop-a : goal.invariant-loop-a
invariant-loop-a l = IsGrownTree (length l.arcs) (ends_of l.arcs) l.root l.reached

abbrev pub decreases-loop-a : goal.decreases-loop-a
decreases-loop-a l = suc (length l.arcs) - length l.reached
