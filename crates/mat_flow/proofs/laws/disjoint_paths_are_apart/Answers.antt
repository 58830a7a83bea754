use Rattle.mat_flow.proofs.SimplePathLaws.{ArePathsApart-disjoint as law}
use Rattle.mat_flow.proofs.laws.disjoint_paths_are_apart.Goals as goal

pub returns : goal.returns
returns c = law
