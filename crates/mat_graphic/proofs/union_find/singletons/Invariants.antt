use Rattle.mat_graphic.proofs.ParentTables.{IsSingletons}
use Rattle.mat_graphic.proofs.union_find.singletons.Given as goal

abbrev pub invariant-loop-v : goal.invariant-loop-v
invariant-loop-v l = IsSingletons l.parent.items l.v
