use Rattle.mat_cuts.proofs.Common.{get_or, pos, arith, ints, All-get_or, sum_of-more, AllBelow-at, cost_at, IsCost}
use Rattle.mat_cuts.proofs.checking.total_cost.Goals as goal

pub bounds-costs-a : goal.bounds-costs-a
bounds-costs-a c = AllBelow-at _ c.args.arcs.now c.loop-a.a-index c.requires.below c.loop-a-test.true

pub overflow_add-total : goal.overflow_add-total
overflow_add-total c =
    let costs = c.args.costs.now in
    let arcs = c.args.arcs.now in
    let a = get_or arcs c.loop-a.a-index 0 in
    let one = All-get_or IsCost costs a (pos 0) (AllBelow-at _ arcs c.loop-a.a-index c.requires.below c.loop-a-test.true) c.requires.range in
    let low = c.loop-a.invariant.low in
    let high = c.loop-a.invariant.high in
    let few = c.requires.few in
    let inside = c.loop-a-test.true in
    omega (arith, ints)

pub loop-a-preserved : goal.loop-a-preserved
loop-a-preserved c =
    let costs = c.args.costs.now in
    let arcs = c.args.arcs.now in
    let a = get_or arcs c.loop-a.a-index 0 in
    let one = All-get_or IsCost costs a (pos 0) (AllBelow-at _ arcs c.loop-a.a-index c.requires.below c.loop-a-test.true) c.requires.range in
    let more = sum_of-more (cost_at costs) arcs c.loop-a.a-index c.loop-a-test.true in
    let so_far = c.loop-a.invariant.so_far in
    let low = c.loop-a.invariant.low in
    let high = c.loop-a.invariant.high in
    let few = c.requires.few in
    let inside = c.loop-a-test.true in
    record { so_far = omega (arith, ints); low = omega (arith, ints); high = omega (arith, ints) }
