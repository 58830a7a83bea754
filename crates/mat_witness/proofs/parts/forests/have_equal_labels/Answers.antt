use Rattle.mat_witness.proofs.Common.{length, get_or, AllBelow-at}
use Rattle.mat_witness.proofs.parts.forests.have_equal_labels.Goals as goal

pub bounds-edges-e : goal.bounds-edges-e
bounds-edges-e c = AllBelow-at (length c.args.edges.now) c.args.set.now c.loop-e.e-index c.requires.below c.loop-e-test.true

pub bounds-edges-e-in-loop-e : goal.bounds-edges-e-in-loop-e
bounds-edges-e-in-loop-e c = AllBelow-at (length c.args.edges.now) c.args.set.now c.loop-e.e-index c.requires.below c.loop-e-test.true

pub bounds-numbers-first : goal.bounds-numbers-first
bounds-numbers-first c =
    c.requires.graph.first (get_or c.args.set.now c.loop-e.e-index 0)
    (AllBelow-at (length c.args.edges.now) c.args.set.now c.loop-e.e-index c.requires.below c.loop-e-test.true)

pub bounds-numbers-second : goal.bounds-numbers-second
bounds-numbers-second c =
    c.requires.graph.second (get_or c.args.set.now c.loop-e.e-index 0)
    (AllBelow-at (length c.args.edges.now) c.args.set.now c.loop-e.e-index c.requires.below c.loop-e-test.true)
