use Rattle.mat_check.proofs.Common.{arith, IsSet-length}
use Rattle.mat_check.proofs.ladder.rung.priced_rung_failure.Goals as goal

pub weigh-requires-clause-few : goal.weigh-requires-clause-few
weigh-requires-clause-few c = omega (arith, IsSet-length _ _ c.requires.ranged.0.set_in_range, c.requires.few)
