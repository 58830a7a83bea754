use Rattle.mat_graphic.proofs.Common.{and_from, and_parts, is_set, IsSet-from_test, test_from-IsSet, is_forest, IsForest-from_test, test_from-IsForest}
use Rattle.mat_graphic.proofs.laws.independent_sets_mean.Goals as goal

pub returns : goal.returns
returns c = λ n ends X. (
  λ passes. (let tests = and_parts (is_set n X) (is_forest ends X) passes in
      let set = IsSet-from_test n X tests.0 in
      (set, IsForest-from_test ends X set.rising tests.1)),
  λ both. and_from (is_set n X) (is_forest ends X) (test_from-IsSet n X both.0) (test_from-IsForest ends X both.1),
)
