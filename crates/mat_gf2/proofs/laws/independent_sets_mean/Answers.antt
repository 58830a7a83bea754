use Rattle.mat_gf2.proofs.Common.{and_from, and_parts, is_set, IsSet-from_test, test_from-IsSet, is_linearly_independent, IsLinearlyIndependent-from_test, test_from-IsLinearlyIndependent}
use Rattle.mat_gf2.proofs.laws.independent_sets_mean.Goals as goal

pub returns : goal.returns
returns c = λ n column X. (
  λ passes. (let tests = and_parts (is_set n X) (is_linearly_independent column X) passes in
      let set = IsSet-from_test n X tests.0 in
      (set, IsLinearlyIndependent-from_test column X set.rising tests.1)),
  λ both. and_from (is_set n X) (is_linearly_independent column X) (test_from-IsSet n X both.0)
      (test_from-IsLinearlyIndependent column X both.0.rising both.1),
)
