use Rattle.mat_sets.proofs.Reach.{missed_goals_have_no_walk as law}
use Rattle.mat_sets.proofs.laws.missed_goals_have_no_walk.Goals as goal

pub returns : goal.returns
returns c = law
