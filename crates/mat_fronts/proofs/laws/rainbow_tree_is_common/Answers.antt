use Rattle.mat_fronts.proofs.Ladders.{tree_is_common, tree_from_common}
use Rattle.mat_fronts.proofs.laws.rainbow_tree_is_common.Goals as goal

pub returns : goal.returns
returns c = λ vertices edges colours colour_of X k. (
  tree_is_common vertices edges colours colour_of k X,
  λ h. tree_from_common vertices edges colours colour_of k X h.0 h.1 h.2,
)
