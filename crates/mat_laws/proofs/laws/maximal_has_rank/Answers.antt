use Rattle.mat_laws.proofs.Common.{sym}
use Rattle.mat_laws.proofs.RankLaws.{rank-maximal}
use Rattle.mat_laws.proofs.laws.maximal_has_rank.Goals as goal

pub returns : goal.returns
returns c = λ n p laws X I r m. sym (rank-maximal laws X I r m)
