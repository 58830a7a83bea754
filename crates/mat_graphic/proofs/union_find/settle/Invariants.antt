use Rattle.mat_graphic.proofs.ParentTables.{IsSettling}
use Rattle.mat_graphic.proofs.union_find.settle.Given as goal

abbrev pub invariant-loop-v : goal.invariant-loop-v
invariant-loop-v l = IsSettling l.fn.parent l.v l.parent
