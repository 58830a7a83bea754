-- Of the rungs so far it is told whether they are beaten.
use Rattle.mat_check.proofs.Common.{◌≡◌, length, AreJudged}
use Rattle.mat_check.proofs.ladder.beaten.beaten_by_sums.Given as goal

abbrev pub invariant-loop-k : goal.invariant-loop-k
invariant-loop-k g l = record {
  count : length l.beaten.items ≡ l.k;
  told : AreJudged (g.M.Matroid.ground_size l.m) (g.M.Matroid.indep l.m) l.side l.rungs l.beaten.items;
}
