-- The set so far is matched; an element enters if it can be matched beside the members.
use Rattle.mat_linked.proofs.Common.{◌≡◌, if◌then◌else◌, ap, length, get_or, replicate, None, refl, ◌∙◌, arith, rules, length-replicate, with_one, AllBelow-at}
use Rattle.mat_linked.proofs.MatchableSets.{element_below}
use Rattle.mat_linked.proofs.MatchingRuns.{IsMatchingRun-start, IsMatchingRun-end, IsMatchingRun-next}
use Rattle.mat_linked.proofs.Searching.{IsReady-start}
use Rattle.mat_linked.proofs.matching.matched_along.Goals as goal
use Rattle.mat_linked.proofs.matching.matched_along.Goals.{then-branch+in_ok-add, else-branch}

pub match_one-requires-clause-element : goal.match_one-requires-clause-element
match_one-requires-clause-element c = AllBelow-at (length c.args.rows.now) c.args.order.now c.loop-x.x-index c.requires.below c.loop-x-test.true

pub match_one-requires-clause-below : goal.match_one-requires-clause-below
match_one-requires-clause-below c = element_below c.args.rows.now _ c.loop-x.matched.items c.loop-x.invariant.run.matching

pub loop-x-init : goal.loop-x-init
loop-x-init c =
    let empty : c.in_ok-matched.matched.items ≡ replicate c.args.sets None = search rules in
    record {
      run = IsMatchingRun-start c.args.rows.now c.args.sets c.args.order.now _ _ c.new-set.ensures.members empty c.requires.distinct;
      ready = IsReady-start c.args.rows.now c.in_ok-matched.matched.items c.in_ok-room.room c.args.sets (ap length empty ∙ length-replicate c.args.sets None)
          c.in_ok-room.ensures.room c.in_ok-room.ensures.all;
    }

pub loop-x-preserved : goal.loop-x-preserved
loop-x-preserved c =
    let told = c.in_ok-match_one in
    let set = c.loop-x.set in
    let x = get_or c.args.order.now c.loop-x.x-index 0 in
    let is : c.if-branch.set ≡ (if told.field-0 then with_one set x else set) = elim c.if-branch.branch [
      | then-branch+in_ok-add w ↦ rw w.if-branch.true (w.set-is ∙ w.in_ok-add.ensures.ok.1)
      | else-branch w ↦ rw w.if-branch.false w.set-is
    ] in
    record {
      run = IsMatchingRun-next c.args.rows.now c.args.sets c.args.order.now set c.loop-x.x-index x c.loop-x-test.true refl c.loop-x.matched.items
          c.loop-x.invariant.run (AllBelow-at (length c.args.rows.now) c.args.order.now c.loop-x.x-index c.requires.below c.loop-x-test.true)
          c.match_one.new.matched.items told.ensures.long told.field-0 told.ensures.matched told.ensures.stays c.if-branch.set is;
      ready = told.ensures.ready;
    }

pub returns : goal.returns
returns c =
    IsMatchingRun-end c.args.rows.now c.args.sets c.args.order.now c.loop-x.set c.loop-x.x-index c.loop-x.matched.items
    (omega (arith, c.loop-x-test.false)) c.loop-x.invariant.run
