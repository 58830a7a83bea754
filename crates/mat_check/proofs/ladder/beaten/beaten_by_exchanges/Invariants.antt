-- Of the rungs so far it is told whether they are beaten, and what is kept is of an independent set.
use Rattle.mat_check.proofs.Common.{◌≡◌, true, length, AreJudged}
use Rattle.mat_check.proofs.ladder.beaten.beaten_by_exchanges.Given as goal

abbrev pub invariant-loop-k : goal.invariant-loop-k
invariant-loop-k g l = record {
  count : length l.beaten.items ≡ l.k;
  told : AreJudged (g.M.Matroid.ground_size l.m) (g.M.Matroid.indep l.m) l.side l.rungs l.beaten.items;
  passes : g.M.Matroid.indep l.m l.here.set ≡ true;
  kept : g.M.Matroid.keeps l.m l.here.set l.here.kept;
}
