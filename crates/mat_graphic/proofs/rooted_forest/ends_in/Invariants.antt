use Rattle.mat_graphic.proofs.Common.{ends_of}
use Rattle.mat_graphic.proofs.TrailTables.{AreEndsBefore}
use Rattle.mat_graphic.proofs.rooted_forest.ends_in.Given as goal

abbrev pub invariant-loop-e : goal.invariant-loop-e
invariant-loop-e l = AreEndsBefore (ends_of l.edges) l.set l.e-index l.firsts.items l.seconds.items
