use Rattle.mat_check.proofs.Common.{arith, IsSet-length}
use Rattle.mat_check.proofs.ladder.rung.plain_rung_failure.Goals as goal

pub weigh-requires-clause-few : goal.weigh-requires-clause-few
weigh-requires-clause-few g c = omega (arith, IsSet-length _ _ c.requires.ranged.set_in_range, c.requires.few)

pub is_beaten-requires-clause-few : goal.is_beaten-requires-clause-few
is_beaten-requires-clause-few g c κs within = omega (arith, IsSet-length _ _ c.requires.ranged.set_in_range, c.requires.few)
