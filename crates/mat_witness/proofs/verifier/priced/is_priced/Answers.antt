use Rattle.mat_witness.proofs.Common.{arith, IsSet-length}
use Rattle.mat_witness.proofs.verifier.priced.is_priced.Goals as goal

pub weigh-requires-clause-few : goal.weigh-requires-clause-few
weigh-requires-clause-few c = omega (arith, IsSet-length _ _ c.requires.set, c.requires.few, c.if-count-weights.false)
