-- A member gains nothing, nor does an element that weighs no more than any member; another element can take
-- the places of the members that its row has.
use Rattle.mat_check.proofs.Common.{◌∙◌, sym, subst, ap, AllBelow, weight_at, below, has_lighter}
use Rattle.mat_check.proofs.GainingExchanges.{light_gains_nothing, member_gains_nothing, row_below, row_gains}
use Rattle.mat_check.proofs.sets.exchanges.exchange_gains.Goals as goal

pub returns-then-contains : goal.returns-then-contains
returns-then-contains g c =
    member_gains_nothing (g.M.Matroid.indep c.args.m.now) (weight_at c.args.weights.now) c.args.set.now c.args.x
    (sym c.contains.ensures.found ∙ c.if-contains.true)

pub returns-then-not-exceeds_least : goal.returns-then-not-exceeds_least
returns-then-not-exceeds_least g c =
    let w = weight_at c.args.weights.now in
    light_gains_nothing (g.M.Matroid.indep c.args.m.now) w c.args.set.now c.args.x
    (sym (c.exceeds_least.ensures ∙ c.requires.least.tells (w c.args.x)) ∙ c.if-not-exceeds_least.true)

pub has_lighter-requires : goal.has_lighter-requires
has_lighter-requires g c =
    let n = g.M.Matroid.ground_size c.args.m.now in
    let out = sym c.contains.ensures.found ∙ c.if-contains.false in
    let inside = row_below (g.M.Matroid.indep c.args.m.now) c.args.set.now c.args.x out c.in_ok-exchange.exchange c.in_ok-exchange.ensures.row
    n (below c.lawful.ensures c.args.set.now c.requires.passes) in
    subst (λ k. AllBelow k c.as_slice.result.now) (sym c.requires.lengths) (subst (AllBelow n) (sym c.as_slice.ensures.items) inside)

pub returns : goal.returns
returns g c =
    let w = weight_at c.args.weights.now in
    let out = sym c.contains.ensures.found ∙ c.if-contains.false in
    c.has_lighter.ensures ∙ ap (λ ys. has_lighter w ys (w c.args.x)) c.as_slice.ensures.items
    ∙ row_gains (g.M.Matroid.indep c.args.m.now) c.args.set.now c.args.x out c.in_ok-exchange.exchange c.in_ok-exchange.ensures.row w
