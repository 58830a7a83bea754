use Rattle.mat_union.proofs.LevelsShow.{right_is_best}
use Rattle.mat_union.proofs.laws.levels_show_best.Goals as goal

pub returns : goal.returns
returns c = λ n tests laws w long parts levels r. right_is_best laws w long parts levels r
