use Rattle.mat_sets.proofs.Reach.{reached_set_exists, reached_set_is_unique as law}
use Rattle.mat_sets.proofs.laws.reached_set_is_unique.Goals as goal

pub returns : goal.returns
returns c = record { exists = reached_set_exists; unique = λ n arc start one other. law one other }
