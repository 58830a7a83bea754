use Rattle.mat_arbor.proofs.LeastTrees.{entering_once_means as means, test_entering_once}
use Rattle.mat_arbor.proofs.laws.entering_once_means.Goals as goal

pub returns : goal.returns
returns c = λ vertices arcs root X g. (means vertices arcs root g X, λ h. test_entering_once vertices arcs root g X h.0 h.1)
