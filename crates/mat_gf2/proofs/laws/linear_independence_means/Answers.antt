use Rattle.mat_gf2.proofs.Common.{IsLinearlyIndependent-from_test, test_from-IsLinearlyIndependent}
use Rattle.mat_gf2.proofs.laws.linear_independence_means.Goals as goal

pub returns : goal.returns
returns c = λ column X rising. (IsLinearlyIndependent-from_test column X rising, test_from-IsLinearlyIndependent column X rising)
