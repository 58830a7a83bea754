use Rattle.std.proofs.Common.{length}
use Rattle.mat_reasons.proofs.Ranged.{plain_below}
use Rattle.mat_tell.proofs.best.tell_best.Goals as goal

pub tell_reasons-requires : goal.tell_reasons-requires
tell_reasons-requires c = plain_below (length c.args.weights.now) c.args.rungs.now c.requires.ranged
