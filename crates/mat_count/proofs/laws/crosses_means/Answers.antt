use Rattle.mat_count.proofs.Common.{Crosses-from_test, test_from-Crosses}
use Rattle.mat_count.proofs.laws.crosses_means.Goals as goal

pub returns : goal.returns
returns c = λ A B. (Crosses-from_test A B, test_from-Crosses A B)
