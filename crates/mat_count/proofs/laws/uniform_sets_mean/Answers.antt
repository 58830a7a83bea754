use Rattle.mat_count.proofs.Common.{leb, length, and_from, and_parts, leb-true, le-leb, is_set, IsSet-from_test, test_from-IsSet}
use Rattle.mat_count.proofs.laws.uniform_sets_mean.Goals as goal

pub returns : goal.returns
returns c = λ n cap X. (
  λ passes. (let tests = and_parts (is_set n X) (leb (length X) cap) passes in
      (IsSet-from_test n X tests.0, leb-true (length X) cap tests.1)),
  λ both. and_from (is_set n X) (leb (length X) cap) (test_from-IsSet n X both.0) (le-leb (length X) cap both.1),
)
