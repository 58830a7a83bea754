-- Each step goes from a vertex to the one before it, which the search found earlier; so the steps end, at a start.
use Rattle.mat_flow.proofs.Common.{◌≡◌, ◌∷◌, [], rules, arith}
use Rattle.mat_flow.proofs.FirstGoals.{at_inside, back_done, back_few, back_on, IsBack-one}
use Rattle.mat_flow.proofs.seeking.trace_back.Goals as goal

pub loop-at-init : goal.loop-at-init
loop-at-init c = λ n arc start live rest found m k.
    let one : c.in_ok-walk.walk.items ≡ c.args.last ∷ [] = search rules in
    rw one (IsBack-one n arc start found k.depth c.args.last m)

pub bounds-before-at : goal.bounds-before-at
bounds-before-at c =
    let r = c.requires in
    at_inside r.0 r.1 r.2 r.3 r.4 r.5 c.args.before.now c.args.last c.loop-at.at c.loop-at.walk.items r.7
    (c.loop-at.invariant r.0 r.1 r.2 r.3 r.4 r.5 r.6 r.7)

pub bounds-before-at-in-loop-at : goal.bounds-before-at-in-loop-at
bounds-before-at-in-loop-at c =
    let r = c.requires in
    at_inside r.0 r.1 r.2 r.3 r.4 r.5 c.args.before.now c.args.last c.loop-at.at c.loop-at.walk.items r.7
    (c.loop-at.invariant r.0 r.1 r.2 r.3 r.4 r.5 r.6 r.7)

pub loop-at-smaller : goal.loop-at-smaller
loop-at-smaller c =
    let r = c.requires in
    let next = back_on r.0 r.1 r.2 r.3 r.4 r.5 c.args.before.now c.args.last c.loop-at.at c.loop-at.walk.items r.7
    (c.loop-at.invariant r.0 r.1 r.2 r.3 r.4 r.5 r.6 r.7) c.loop-at-test.true in
    let few = back_few r.0 r.1 r.2 r.3 r.4 r.5 c.args.before.now c.args.last _ _ r.7 next in
    let long = r.7.long in
    rw c.in_ok-insert.ensures.items (omega arith)

pub loop-at-preserved : goal.loop-at-preserved
loop-at-preserved c = λ n arc start live rest found m k.
    rw c.in_ok-insert.ensures.items
    (back_on n arc start live rest found c.args.before.now c.args.last c.loop-at.at c.loop-at.walk.items k
    (c.loop-at.invariant n arc start live rest found m k) c.loop-at-test.true)

pub returns : goal.returns
returns c = λ n arc start live rest found m k.
    back_done n arc start live rest found c.args.before.now c.args.last c.loop-at.at c.loop-at.walk.items k
    (c.loop-at.invariant n arc start live rest found m k) (λ l. let past = c.loop-at-test.false in omega arith)
