-- The later of the two places climbs to the one before it, and its edge gets the entry, until both meet or one has none before it.
use Rattle.mat_graphic.proofs.Common.{◌<◌, length, refl, subst, sym, arith}
use Rattle.mat_graphic.proofs.EnteredTrails.{step_below, IsEntering, IsEntering-start, IsEntering-step, entered_apart, entered_joined}
use Rattle.mat_graphic.proofs.rooted_forest.enter_climb.Goals as goal

pub loop-first-init : goal.loop-first-init
loop-first-init c = record {
  first = c.requires.from;
  second = c.requires.to;
  entering = λ ends X t. IsEntering-start ends X c.args.forest.now.order.items c.args.from c.args.to c.args.edge c.args.columns.now;
}

pub returns-in_default : goal.returns-in_default
returns-in_default c = λ ends X t.
    let s = c.loop-first.invariant.entering ends X t in
    entered_apart ends X c.args.forest.now.order.items c.args.from c.args.to c.loop-first.first c.loop-first.second c.args.edge
    c.args.columns.now c.loop-first.columns s
    (rw c.in_default.is at (c.step_up.ensures.climbing ends X c.args.from c.args.to s.members t s.climbing))

pub insert-requires : goal.insert-requires
insert-requires c =
    let r = c.requires.tree in
    let old = c.args.columns.now in
    let s = c.loop-first.invariant.entering r.0 r.1 r.2 in
    let up = rw c.in-Some.is at (c.step_up.ensures.climbing r.0 r.1 c.args.from c.args.to s.members r.2 s.climbing) in
    let below = step_below r.0 r.1 c.args.forest.now.order.items c.args.from c.args.to (length old) c.in-Some.step.first c.in-Some.step.second
    c.in-Some.step.edge s.members r.3 up in
    omega (arith, below, s.entered.count)

pub loop-first-preserved : goal.loop-first-preserved
loop-first-preserved c =
    let r = c.requires.tree in
    let order = c.args.forest.now.order.items in
    let old = c.args.columns.now in
    let columns = c.loop-first.columns in
    let edge = c.in-Some.step.edge in
    let inside : (c.in-Some.step.first < length order) × (c.in-Some.step.second < length order) = rw c.in-Some.is at c.step_up.ensures.inside in
    let now = c.loop-first.invariant.entering r.0 r.1 r.2 in
    let seen = rw c.in-Some.is at (c.step_up.ensures.climbing r.0 r.1 c.args.from c.args.to now.members r.2 now.climbing) in
    let below = step_below r.0 r.1 order c.args.from c.args.to (length old) c.in-Some.step.first c.in-Some.step.second edge now.members r.3 seen in
    record {
      first = inside.0;
      second = inside.1;
      entering = λ ends X t. (let s = c.loop-first.invariant.entering ends X t in
          let up = rw c.in-Some.is at (c.step_up.ensures.climbing ends X c.args.from c.args.to s.members t s.climbing) in
          subst (λ rows. IsEntering ends X order c.args.from c.args.to c.in-Some.step.first c.in-Some.step.second c.args.edge old rows)
          (sym c.in_ok-insert.ensures.ok)
          (IsEntering-step ends X order c.args.from c.args.to c.loop-first.first c.loop-first.second c.args.edge old columns s
          c.in-Some.step.first c.in-Some.step.second edge _ up below refl));
    }

pub loop-first-smaller : goal.loop-first-smaller
loop-first-smaller c = rw c.in-Some.is at c.step_up.ensures.lower

pub returns : goal.returns
returns c = λ ends X t.
    entered_joined ends X c.args.forest.now.order.items c.args.from c.args.to c.loop-first.first c.loop-first.second c.args.edge
    c.args.columns.now c.loop-first.columns (c.loop-first.invariant.entering ends X t) (omega (arith, c.loop-first-test.false))
