use Rattle.mat_witness.proofs.Common.{map, ap, subst, ◌∙◌, take_all, element_count, tree_of, demand_for, IsMeeting, bound_part}
use Rattle.std.specs.List.{AllZip}
use Rattle.mat_witness.proofs.MadeWitnesses.{IsMetBy, all_are_met, filled_at, met_next}
use Rattle.mat_witness.proofs.make.half_bounds.Goals as goal

pub demand_bound-requires-clause-filled : goal.demand_bound-requires-clause-filled
demand_bound-requires-clause-filled c =
    let tree = tree_of c.args.matroid.now in
    let told = ap (map (demand_for tree)) c.deref-demand-items.ensures.value ∙ c.in_ok-demands.ensures tree in
    filled_at tree c.requires.witnessed c.args.k c.args.set.now c.args.half.now c.requires.size c.requires.lengths c.requires.heaviest
    c.deref-demand-items.result.now c.loop-demand.demand-index c.demand-item.result told c.loop-demand-test.true c.demand-item.is

pub loop-demand-preserved : goal.loop-demand-preserved
loop-demand-preserved c =
    rw c.in_ok-push.ensures.items (met_next (tree_of c.args.matroid.now) c.deref-demand-items.result.now c.loop-demand.bounds.items
    c.loop-demand.demand-index c.demand-item.result c.in_ok-bound.bound c.loop-demand-test.true c.demand-item.is c.loop-demand.invariant
    c.in_ok-bound.ensures)

pub returns : goal.returns
returns c =
    let tree = tree_of c.args.matroid.now in
    let listed = c.deref-demand-items.result.now in
    let bounds = c.loop-demand.bounds.items in
    let all = subst (λ demands. AllZip (IsMetBy tree) demands bounds) (take_all c.loop-demand.demand-index listed c.loop-demand-test.false)
    c.loop-demand.invariant in
    let told = ap (map (demand_for tree)) c.deref-demand-items.ensures.value ∙ c.in_ok-demands.ensures tree in
    subst (λ demands. AllZip (IsMeeting (element_count tree)) demands (map bound_part bounds)) told (all_are_met tree listed bounds all)
