use Rattle.mat_linked.proofs.MatchingRuns.{IsMatchingRun}
use Rattle.mat_linked.specs.Searches.{IsReady}
use Rattle.mat_linked.proofs.matching.matched_along.Given as goal

-- the run has come over the first elements, and the members of its set are matched
abbrev pub invariant-loop-x : goal.invariant-loop-x
invariant-loop-x l = record {
  run : IsMatchingRun l.rows l.sets l.order l.x-index l.set l.matched.items;
  ready : IsReady l.rows l.matched.items l.room;
}
