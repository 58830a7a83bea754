use Rattle.mat_laws.proofs.Common.{arith}
use Rattle.mat_laws.proofs.Maximal.{base_largest, IsBase-size}
use Rattle.mat_laws.proofs.Symmetric.{symmetric_exchange}
use Rattle.mat_laws.proofs.laws.bases_exchange_symmetrically.Goals as goal

pub returns : goal.returns
returns c = record {
  partner = λ n p laws A B x a b inside outside. symmetric_exchange laws A B x a.passes b.passes
      (omega (arith, base_largest laws A B a b.passes, base_largest laws B A b a.passes)) inside outside;
  size = λ n p laws A B a in_p same. IsBase-size laws A B a in_p (omega (arith, same));
}
