use Rattle.mat_linked.specs.Searches.{IsReady}
use Rattle.mat_linked.proofs.NewMatches.{AreMatchedBeside}
use Rattle.mat_linked.proofs.matching.matched_with_new.Given as goal

-- the common members and the first new ones are matched
abbrev pub invariant-loop-x : goal.invariant-loop-x
invariant-loop-x l = record {
  run : AreMatchedBeside l.rows l.sets l.base l.next l.x-items l.x-index l.matched.items;
  ready : IsReady l.rows l.matched.items l.room;
}
