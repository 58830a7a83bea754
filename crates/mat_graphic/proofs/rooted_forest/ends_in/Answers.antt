use Rattle.mat_graphic.proofs.Common.{length, AllBelow-at}
use Rattle.mat_graphic.proofs.rooted_forest.ends_in.Goals as goal

pub bounds-edges-e : goal.bounds-edges-e
bounds-edges-e c = AllBelow-at (length c.args.edges.now) c.args.set.now c.loop-e.e-index c.requires c.loop-e-test.true

pub bounds-edges-e-in-loop-e : goal.bounds-edges-e-in-loop-e
bounds-edges-e-in-loop-e c = AllBelow-at (length c.args.edges.now) c.args.set.now c.loop-e.e-index c.requires c.loop-e-test.true
