use Rattle.mat_graphic.proofs.HungTrees.{AreFirstFlags}
use Rattle.mat_graphic.proofs.hanging.tree_of.Given as goal

abbrev pub invariant-loop-at : goal.invariant-loop-at
invariant-loop-at l = AreFirstFlags l.forest.before.items l.root l.at l.inside.items
