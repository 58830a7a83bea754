use Rattle.std.proofs.Common.{length}
use Rattle.mat_reasons.proofs.Ranged.{priced_below, shares_summable}
use Rattle.mat_tell.proofs.intersection.tell_intersection.Goals as goal

pub tell_ladder-requires-clause-below : goal.tell_ladder-requires-clause-below
tell_ladder-requires-clause-below c = priced_below (length c.args.pair.now.weights.now) c.args.rungs.now c.requires.ranged.0

pub tell_ladder-requires-clause-shares : goal.tell_ladder-requires-clause-shares
tell_ladder-requires-clause-shares c = shares_summable (length c.args.pair.now.weights.now) c.args.rungs.now c.requires.ranged.0
