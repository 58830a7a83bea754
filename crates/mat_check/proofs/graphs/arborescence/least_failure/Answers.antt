use Rattle.mat_check.proofs.Common.{arith, IsSet-length}
use Rattle.mat_check.proofs.graphs.arborescence.least_failure.Goals as goal

pub weigh-requires-clause-few : goal.weigh-requires-clause-few
weigh-requires-clause-few c = omega (arith, IsSet-length _ _ c.requires.ranged.arcs_in_range, c.requires.ranged.few)
