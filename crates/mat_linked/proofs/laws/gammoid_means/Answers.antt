use Rattle.mat_linked.proofs.Common.{is_gammoid-from, is_gammoid-gives}
use Rattle.mat_linked.proofs.laws.gammoid_means.Goals as goal

pub returns : goal.returns
returns c = λ vertices arcs sources targets X given.
    (is_gammoid-gives vertices arcs sources targets X, is_gammoid-from vertices arcs sources targets given X)
