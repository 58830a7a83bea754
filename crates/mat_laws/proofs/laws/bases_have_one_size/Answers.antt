use Rattle.mat_laws.proofs.Common.{arith}
use Rattle.mat_laws.proofs.Maximal.{base_largest}
use Rattle.mat_laws.proofs.laws.bases_have_one_size.Goals as goal

pub returns : goal.returns
returns c = λ n p laws A B a b. omega (arith, base_largest laws A B a b.passes, base_largest laws B A b a.passes)
