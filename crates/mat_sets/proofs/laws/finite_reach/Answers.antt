use Rattle.mat_sets.proofs.Reach.{finite_reach as law}
use Rattle.mat_sets.proofs.laws.finite_reach.Goals as goal

pub returns : goal.returns
returns c = law
