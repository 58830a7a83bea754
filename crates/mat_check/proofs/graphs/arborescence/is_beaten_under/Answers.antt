use Rattle.mat_check.proofs.Common.{arith, IsSet-length}
use Rattle.mat_check.proofs.graphs.arborescence.is_beaten_under.Goals as goal

pub is_beaten-requires-clause-few : goal.is_beaten-requires-clause-few
is_beaten-requires-clause-few g c κs within =
    let laws = c.lawful.ensures in
    omega (arith, IsSet-length _ _ (laws.sets c.args.set.now c.requires.passes), c.requires.few)
