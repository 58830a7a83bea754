use Rattle.mat_facts.proofs.Common.{length}
use Rattle.mat_facts.proofs.RangedAnswers.{few_rungs, plain_inside}
use Rattle.mat_facts.proofs.ladders.best_reason.Goals as goal

pub put_plain_rungs-requires : goal.put_plain_rungs-requires
put_plain_rungs-requires c =
    record {
      small = few_rungs (length c.args.weights.now) c.args.rungs.now c.requires;
      below = plain_inside (length c.args.weights.now) c.args.rungs.now c.requires;
    }

pub put_last-requires : goal.put_last-requires
put_last-requires c = c.requires.some
