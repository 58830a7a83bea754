use Rattle.mat_exchange.proofs.Common.{rules, length, weight_at, exchanges_in, Stuck}
use Rattle.mat_exchange.proofs.StuckSearches.{stuck_told}
use Rattle.mat_exchange.proofs.path_search.tight_search_with.Goals as goal

pub returns-in_ok-slack-in-Reached-clause-stuck : goal.returns-in_ok-slack-in-Reached-clause-stuck
returns-in_ok-slack-in-Reached-clause-stuck c =
    stuck_told (length c.args.w1.now) (exchanges_in c.args.first.now) (exchanges_in c.args.second.now) (weight_at c.args.w1.now) (weight_at c.args.w2.now)
    (Stuck c.in-Reached.reach c.in_ok-slack-in-Reached.slack) (search rules)
