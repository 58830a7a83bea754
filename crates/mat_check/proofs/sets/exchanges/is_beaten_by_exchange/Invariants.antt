-- No exchange gains for the elements so far.
use Rattle.mat_check.proofs.Common.{◌≡◌, false, some_below, weight_at, exchange_gains}
use Rattle.mat_check.proofs.sets.exchanges.is_beaten_by_exchange.Given as goal

abbrev pub invariant-loop-x : goal.invariant-loop-x
invariant-loop-x g l = some_below l.x (exchange_gains (g.M.Matroid.indep l.m) (weight_at l.weights) l.here.set) ≡ false
