use Rattle.mat_sets.specs.Weights.{weight_at}
use Rattle.mat_teams.proofs.TeamSets.{heaviest_are_teams}
use Rattle.mat_teams.proofs.ladders.best_teams.Goals as goal

pub returns-clause-sets : goal.returns-clause-sets
returns-clause-sets c = heaviest_are_teams c.lawful.ensures (weight_at c.args.weights.now) c.in_ok-teams.teams c.in_ok-teams.ensures
