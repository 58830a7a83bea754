use Rattle.mat_graphic.proofs.Common.{IsForest-from_test, test_from-IsForest}
use Rattle.mat_graphic.proofs.laws.forest_means.Goals as goal

pub returns : goal.returns
returns c = λ ends X r. (IsForest-from_test ends X r, test_from-IsForest ends X)
