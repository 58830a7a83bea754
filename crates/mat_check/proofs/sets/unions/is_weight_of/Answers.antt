use Rattle.mat_check.proofs.Common.{arith, IsSet-length}
use Rattle.mat_check.proofs.sets.unions.is_weight_of.Goals as goal

pub weigh-requires-clause-few : goal.weigh-requires-clause-few
weigh-requires-clause-few c = omega (arith, IsSet-length _ _ c.requires.set, c.requires.few)
