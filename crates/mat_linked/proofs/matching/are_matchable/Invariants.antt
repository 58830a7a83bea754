use Rattle.mat_linked.proofs.MatchableSets.{AreMatchedTo}
use Rattle.mat_linked.specs.Searches.{IsReady}
use Rattle.mat_linked.proofs.matching.are_matchable.Given as goal

-- the first elements are matched
abbrev pub invariant-loop-x : goal.invariant-loop-x
invariant-loop-x l = record {
  run : AreMatchedTo l.rows l.sets l.elements l.x-index l.matched.items;
  ready : IsReady l.rows l.matched.items l.room;
}
