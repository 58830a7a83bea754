-- The common members and the new ones so far are matched, since all of the next set can be matched.
use Rattle.mat_linked.proofs.Common.{◌∙◌, get_or, refl, arith}
use Rattle.mat_linked.proofs.MatchableSets.{element_below}
use Rattle.mat_linked.proofs.NewMatches.{new_below, AreMatchedBeside-all, AreMatchedBeside-more, AreMatchedBeside-none}
use Rattle.mat_linked.proofs.Searching.{IsReady-start}
use Rattle.mat_linked.proofs.matching.matched_with_new.Goals as goal

pub loop-x-init : goal.loop-x-init
loop-x-init c = record {
  run = AreMatchedBeside-none c.args.rows.now c.args.sets c.args.base.now c.args.next.now c.as_slice-x-items.result.now c.in_ok-more.ensures.other_rises
      c.in_ok-more.ensures.rises (c.as_slice-x-items.ensures.items ∙ c.in_ok-more.ensures.members) c.args.common.items c.requires.long c.requires.matching;
  ready = IsReady-start c.args.rows.now c.args.common.items c.in_ok-room.room c.args.sets c.requires.long c.in_ok-room.ensures.room
      c.in_ok-room.ensures.all;
}

pub match_one-requires-clause-element : goal.match_one-requires-clause-element
match_one-requires-clause-element c =
    new_below c.args.rows.now c.args.sets c.args.base.now c.args.next.now c.as_slice-x-items.result.now c.in_ok-more.ensures.other_rises
    c.in_ok-more.ensures.rises (c.as_slice-x-items.ensures.items ∙ c.in_ok-more.ensures.members) c.loop-x.x-index (get_or c.as_slice-x-items.result.now c.loop-x.x-index 0)
    c.loop-x-test.true refl c.requires.below

pub match_one-requires-clause-below : goal.match_one-requires-clause-below
match_one-requires-clause-below c = element_below c.args.rows.now _ c.loop-x.matched.items c.loop-x.invariant.run.matching

pub loop-x-preserved : goal.loop-x-preserved
loop-x-preserved c = record {
  run =
      AreMatchedBeside-more c.args.rows.now c.args.sets c.args.base.now c.args.next.now c.as_slice-x-items.result.now c.in_ok-more.ensures.other_rises
      c.in_ok-more.ensures.rises (c.as_slice-x-items.ensures.items ∙ c.in_ok-more.ensures.members) c.loop-x.x-index
      (get_or c.as_slice-x-items.result.now c.loop-x.x-index 0) c.loop-x-test.true refl c.loop-x.matched.items c.match_one.new.matched.items
      c.in_ok-match_one.field-0 c.requires.matchable c.loop-x.invariant.run c.in_ok-match_one.ensures.matched c.in_ok-match_one.ensures.long;
  ready = c.in_ok-match_one.ensures.ready;
}

pub returns-clause-matching : goal.returns-clause-matching
returns-clause-matching c =
    AreMatchedBeside-all c.args.rows.now c.args.sets c.args.base.now c.args.next.now c.as_slice-x-items.result.now c.in_ok-more.ensures.other_rises
    c.in_ok-more.ensures.rises (c.as_slice-x-items.ensures.items ∙ c.in_ok-more.ensures.members) c.loop-x.x-index c.loop-x.matched.items
    (omega (arith, c.loop-x-test.false)) c.loop-x.invariant.run

pub returns-clause-long : goal.returns-clause-long
returns-clause-long c = c.loop-x.invariant.run.long
