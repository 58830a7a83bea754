use Rattle.mat_branch.proofs.Common.{ends_of, enters, IsCounted}
use Rattle.mat_branch.proofs.entering.entering_count.Given as goal

abbrev pub invariant-loop-a : goal.invariant-loop-a
invariant-loop-a l = IsCounted (enters (ends_of l.arcs) l.cut) l.a l.count
