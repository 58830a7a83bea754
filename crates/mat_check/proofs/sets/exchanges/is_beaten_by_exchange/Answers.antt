-- An exchange that gains makes a heavier set of the same size, and where none gains the set is heaviest of its size.
use Rattle.mat_check.proofs.Common.{◌≡◌, ◌∙◌, false, length, sym, subst, arith, some_below, AllBelow, weight_at, some_below-next, some_below-zero, below, exchange_gains, IsLeastWeightOrNone}
use Rattle.mat_check.proofs.GainingExchanges.{gain_beats, no_gain_is_fair}
use Rattle.mat_check.proofs.sets.exchanges.is_beaten_by_exchange.Goals as goal

pub least_weight-least-requires : goal.least_weight-least-requires
least_weight-least-requires g c =
    let inside = below c.lawful.ensures c.args.here.now.set c.requires.passes in
    subst (AllBelow (length c.args.weights.now)) (sym c.as_slice.ensures.items)
    (subst (λ k. AllBelow k c.args.here.now.set) (sym c.requires.lengths) inside)

pub loop-x-init : goal.loop-x-init
loop-x-init g c = some_below-zero (exchange_gains (g.M.Matroid.indep c.args.m.now) (weight_at c.args.weights.now) c.args.here.now.set)

pub exchange_gains-requires-clause-least : goal.exchange_gains-requires-clause-least
exchange_gains-requires-clause-least g c κs within =
    subst (λ xs. IsLeastWeightOrNone (weight_at c.args.weights.now) xs c.least_weight-least.result) c.as_slice.ensures.items c.least_weight-least.ensures

pub returns-then-branch : goal.returns-then-branch
returns-then-branch g c =
    gain_beats c.lawful.ensures (weight_at c.args.weights.now) c.args.here.now.set c.requires.passes c.loop-x.x
    (sym c.in_ok-exchange_gains.ensures ∙ c.if-branch.true)

pub loop-x-preserved : goal.loop-x-preserved
loop-x-preserved g c =
    some_below-next c.loop-x.x (exchange_gains (g.M.Matroid.indep c.args.m.now) (weight_at c.args.weights.now) c.args.here.now.set)
    (sym c.in_ok-exchange_gains.ensures ∙ c.if-branch.false) c.loop-x.invariant

pub returns : goal.returns
returns g c =
    let gains = exchange_gains (g.M.Matroid.indep c.args.m.now) (weight_at c.args.weights.now) c.args.here.now.set in
    let n = g.M.Matroid.ground_size c.args.m.now in
    let all : c.loop-x.x ≡ n = omega (arith, c.loop-x-test.false, c.loop-x.auto.x-end, c.size-x-end.ensures) in
    no_gain_is_fair c.lawful.ensures (weight_at c.args.weights.now) c.args.here.now.set c.requires.passes
    (subst (λ k. some_below k gains ≡ false) all c.loop-x.invariant)
