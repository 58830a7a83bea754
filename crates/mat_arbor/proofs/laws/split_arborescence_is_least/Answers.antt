use Rattle.mat_arbor.proofs.LeastTrees.{split_is_least}
use Rattle.mat_arbor.proofs.laws.split_arborescence_is_least.Goals as goal

pub returns : goal.returns
returns c = λ vertices arcs costs root tree first second g small. split_is_least vertices arcs root g small costs tree first second
