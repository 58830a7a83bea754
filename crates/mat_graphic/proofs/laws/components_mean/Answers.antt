use Rattle.mat_graphic.proofs.Common.{◌∙◌, subst, sym, IsLeastReached}
use Rattle.mat_graphic.proofs.ComponentCounts.{least_merged-is}
use Rattle.mat_graphic.proofs.ComponentCounts.{IsLeastReached-unique, least_reached-merged}
use Rattle.mat_graphic.proofs.laws.components_mean.Goals as goal

pub returns : goal.returns
returns c = λ ends X v r rises. (
  λ same. subst (IsLeastReached ends X v) (sym (least_reached-merged ends X v rises) ∙ same) (least_merged-is ends X v rises),
  λ least. least_reached-merged ends X v rises ∙ IsLeastReached-unique ends X v r rises least,
)
