use Rattle.mat_witness.proofs.Common.{length, AllBelow-at}
use Rattle.mat_witness.proofs.parts.gammoids.paths.element_vertices.Goals as goal

pub bounds-targets-e : goal.bounds-targets-e
bounds-targets-e c = AllBelow-at (length c.args.targets.now) c.args.elements.now c.loop-e.e-index c.requires c.loop-e-test.true
