use Rattle.mat_linked.proofs.Common.{is_transversal-from, is_transversal-gives}
use Rattle.mat_linked.proofs.laws.transversal_means.Goals as goal

pub returns : goal.returns
returns c = λ n family X. (is_transversal-gives n family X, is_transversal-from n family X)
