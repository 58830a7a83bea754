use Rattle.mat_count.proofs.Common.{IsWithinCaps-from_test, test_from-IsWithinCaps}
use Rattle.mat_count.proofs.laws.within_caps_means.Goals as goal

pub returns : goal.returns
returns c = λ sets caps X same. (IsWithinCaps-from_test sets caps X same, test_from-IsWithinCaps sets caps X)
