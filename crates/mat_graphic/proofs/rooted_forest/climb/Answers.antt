use Rattle.mat_graphic.proofs.Common.{◌<◌, length, get_or, subst, sym, arith, IsClimbing, IsTrailSet}
use Rattle.mat_graphic.proofs.Climbing.{IsClimbing-start, IsClimbing-end}
use Rattle.mat_graphic.proofs.rooted_forest.climb.Goals as goal

pub loop-first-init : goal.loop-first-init
loop-first-init c = record {
  first = c.requires.from;
  second = c.requires.to;
  climbing = λ ends X t. IsClimbing-start ends X _ c.args.from c.args.to _ c.in_ok-with.ensures;
}

pub returns-in_default-clause-trail : goal.returns-in_default-clause-trail
returns-in_default-clause-trail c = λ ends X t.
    rw c.in_default.is at (c.step_up.ensures.climbing ends X c.args.from c.args.to c.loop-first.with t (c.loop-first.invariant.climbing ends X t))

pub loop-first-preserved : goal.loop-first-preserved
loop-first-preserved c =
    let order = c.args.forest.now.order.items in
    let inside : (c.in-Some.step.first < length order) × (c.in-Some.step.second < length order) = rw c.in-Some.is at c.step_up.ensures.inside in
    record {
      first = inside.0;
      second = inside.1;
      climbing = λ ends X t. (let up = rw c.in-Some.is at (c.step_up.ensures.climbing ends X c.args.from c.args.to c.loop-first.with t
          (c.loop-first.invariant.climbing ends X t)) in
          subst (IsClimbing ends X order c.args.from c.args.to c.in-Some.step.first c.in-Some.step.second)
          (sym c.in_ok-insert.ensures.ok) up);
    }

pub loop-first-smaller : goal.loop-first-smaller
loop-first-smaller c = rw c.in-Some.is at c.step_up.ensures.lower

pub returns-clause-trail : goal.returns-clause-trail
returns-clause-trail c = λ ends X t.
    let order = c.args.forest.now.order.items in
    subst (IsTrailSet ends X (get_or order c.args.from 0) (get_or order c.args.to 0)) (sym c.in_ok-edges.ensures.members)
    (IsClimbing-end ends X order c.args.from c.args.to c.loop-first.first c.loop-first.second c.loop-first.with
    (omega (arith, c.loop-first-test.false)) (c.loop-first.invariant.climbing ends X t))
