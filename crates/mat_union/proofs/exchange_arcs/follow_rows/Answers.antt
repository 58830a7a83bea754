use Rattle.mat_union.proofs.Common.{length, arith, subst, sym, AllBelow, AllBelow-at}
use Rattle.mat_union.proofs.FollowedRows.{following_end, following_more, following_none}
use Rattle.mat_union.proofs.exchange_arcs.follow_rows.Goals as goal

pub loop-v-init : goal.loop-v-init
loop-v-init c = following_none c.args.places.now c.args.rows.now.items

pub pass_through-requires-clause-below : goal.pass_through-requires-clause-below
pass_through-requires-clause-below c = subst (λ k. AllBelow k c.args.places.now) (sym c.loop-v.invariant.count) c.requires

pub pass_through-requires-clause-here : goal.pass_through-requires-clause-here
pass_through-requires-clause-here c =
    let below = AllBelow-at (length c.args.rows.now.items) c.args.places.now c.loop-v.v-index c.requires c.loop-v-test.true in
    omega (arith, below, c.loop-v.invariant.count)

pub loop-v-preserved : goal.loop-v-preserved
loop-v-preserved c = following_more c.args.places.now c.loop-v.v-index c.args.rows.now.items c.loop-v.rows.items c.pass_through.new.rows.items c.loop-v-test.true
    c.loop-v.invariant c.in_ok-pass_through.ensures

pub returns : goal.returns
returns c = following_end c.args.places.now c.loop-v.v-index c.args.rows.now.items c.loop-v.rows.items (omega (arith, c.loop-v-test.false)) c.loop-v.invariant
