use Rattle.mat_graphic.proofs.ParentTables.{IsFinding}
use Rattle.mat_graphic.proofs.union_find.find.Given as goal

abbrev pub invariant-loop-parent : goal.invariant-loop-parent
invariant-loop-parent l = IsFinding l.fn.parent l.start l.parent l.v

abbrev pub decreases-loop-parent : goal.decreases-loop-parent
decreases-loop-parent l = l.v
