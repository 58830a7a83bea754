-- The elements so far are matched; a search that comes to no free set shows that the next one cannot be matched with them.
use Rattle.mat_linked.proofs.Common.{◌≡◌, ◌∙◌, ap, length, arith, replicate, rules, None, length-replicate, AllBelow-at}
use Rattle.mat_linked.proofs.MatchableSets.{AreMatchedTo-start, all_matched, element_below, not_matched, AreMatchedTo-more}
use Rattle.mat_linked.proofs.Searching.{IsReady-start}
use Rattle.mat_linked.proofs.matching.are_matchable.Goals as goal

pub loop-x-init : goal.loop-x-init
loop-x-init c =
    let empty : c.in_ok-matched.matched.items ≡ replicate c.args.sets None = search rules in
    record {
      run = AreMatchedTo-start c.args.rows.now c.args.sets _ c.in_ok-matched.matched.items empty;
      ready = IsReady-start c.args.rows.now c.in_ok-matched.matched.items c.in_ok-room.room c.args.sets (ap length empty ∙ length-replicate c.args.sets None)
          c.in_ok-room.ensures.room c.in_ok-room.ensures.all;
    }

pub match_one-requires-clause-element : goal.match_one-requires-clause-element
match_one-requires-clause-element c = AllBelow-at (length c.args.rows.now) c.args.elements.now c.loop-x.x-index c.requires.below c.loop-x-test.true

pub match_one-requires-clause-below : goal.match_one-requires-clause-below
match_one-requires-clause-below c = element_below c.args.rows.now _ c.loop-x.matched.items c.loop-x.invariant.run.matching

pub returns-then-not-branch : goal.returns-then-not-branch
returns-then-not-branch c =
    not_matched c.args.rows.now c.args.sets c.args.elements.now c.loop-x.x-index c.loop-x.matched.items c.match_one.new.matched.items
    c.in_ok-match_one.field-0 c.requires.rises c.loop-x-test.true c.loop-x.invariant.run c.in_ok-match_one.ensures.matched c.in_ok-match_one.ensures.long
    c.if-not-branch.true

pub loop-x-preserved : goal.loop-x-preserved
loop-x-preserved c = record {
  run =
      AreMatchedTo-more c.args.rows.now c.args.sets c.args.elements.now c.loop-x.x-index c.loop-x.matched.items c.match_one.new.matched.items
      c.in_ok-match_one.field-0 c.requires.rises c.loop-x-test.true c.loop-x.invariant.run c.in_ok-match_one.ensures.matched c.in_ok-match_one.ensures.long
      c.if-not-branch.false;
  ready = c.in_ok-match_one.ensures.ready;
}

pub returns : goal.returns
returns c =
    all_matched c.args.rows.now c.args.sets c.args.elements.now c.loop-x.x-index c.loop-x.matched.items c.requires.rises c.requires.below
    (omega (arith, c.loop-x-test.false)) c.loop-x.invariant.run
