use Rattle.mat_laws.proofs.RankLaws.{rank_is}
use Rattle.mat_laws.proofs.laws.rank_is_largest.Goals as goal

pub returns : goal.returns
returns c = λ n p laws. rank_is laws
