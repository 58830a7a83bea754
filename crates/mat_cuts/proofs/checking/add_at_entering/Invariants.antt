use Rattle.mat_cuts.proofs.Common.{ends_of, enters}
use Rattle.mat_cuts.proofs.Adding.{IsAdding}
use Rattle.mat_cuts.proofs.checking.add_at_entering.Given as goal

abbrev pub invariant-loop-a : goal.invariant-loop-a
invariant-loop-a l = IsAdding (enters (ends_of l.arcs) l.set) l.weight l.fn.paid.items l.a l.paid.items
