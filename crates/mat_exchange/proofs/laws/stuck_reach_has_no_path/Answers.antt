use Rattle.mat_sets.proofs.Reach.{missed_goals_have_no_walk as law}
use Rattle.mat_exchange.proofs.Common.{is_heaviest_addable, is_tight}
use Rattle.mat_exchange.proofs.laws.stuck_reach_has_no_path.Goals as goal

pub returns : goal.returns
returns c = λ n first second w1 w2 R path stuck.
    law n (is_tight first second w1 w2) (is_heaviest_addable n first w1) (is_heaviest_addable n second w2) R path stuck.reached stuck.no_sink
