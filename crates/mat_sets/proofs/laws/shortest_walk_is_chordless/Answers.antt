use Rattle.mat_sets.proofs.Reach.{shortest_walk_is_chordless as law}
use Rattle.mat_sets.proofs.laws.shortest_walk_is_chordless.Goals as goal

pub returns : goal.returns
returns c = law
