use Rattle.mat_arbor.proofs.GrownTrees.{arborescence_or}
use Rattle.mat_arbor.proofs.laws.arborescence_or_unentered.Goals as goal

pub returns : goal.returns
returns c = λ vertices arcs root g. arborescence_or vertices arcs root g.first g.second
