use Rattle.mat_arbor.proofs.LeastTrees.{arborescence_from_common, common_from_arborescence}
use Rattle.mat_arbor.proofs.laws.arborescence_is_common.Goals as goal

pub returns : goal.returns
returns c = λ vertices arcs root X g small. (
  λ t. let h = common_from_arborescence vertices arcs root g small X t in (t.size, h.0, h.1),
  λ h. arborescence_from_common vertices arcs root g small X h.0 h.1 h.2,
)
