use Rattle.mat_count.proofs.Common.{and_from, and_parts, is_set, IsSet-from_test, test_from-IsSet, is_within_caps, IsWithinCaps-from_test, test_from-IsWithinCaps}
use Rattle.mat_count.proofs.laws.counted_sets_mean.Goals as goal

pub returns : goal.returns
returns c = λ n sets caps X same. (
  λ passes. (let tests = and_parts (is_set n X) (is_within_caps sets caps X) passes in
      (IsSet-from_test n X tests.0, IsWithinCaps-from_test sets caps X same tests.1)),
  λ both. and_from (is_set n X) (is_within_caps sets caps X) (test_from-IsSet n X both.0)
      (test_from-IsWithinCaps sets caps X both.1),
)
