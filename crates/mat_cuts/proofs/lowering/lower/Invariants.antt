use Rattle.mat_cuts.proofs.Common.{length, take, is_member, IsLowered}
use Rattle.mat_cuts.proofs.lowering.lower.Given as goal

abbrev pub invariant-loop-a : goal.invariant-loop-a
invariant-loop-a l = IsLowered (length l.fn.reduced.items) (λ a. is_member a (take l.a-index l.arcs)) l.least l.time
    l.fn.reduced.items l.reduced.items l.fn.since.items l.since.items
