-- The tree always takes the earliest timed arc that leaves what is reached: there is one while a vertex is not reached, and it keeps that each
-- listed set is entered once, from which the cost of the tree follows.
use Rattle.mat_cuts.proofs.Common.{◌∙◌, suc, length, ap, subst, arith, ltb-true, never, ends_of, is_timed, TellsEarliest, at}
use Rattle.mat_cuts.proofs.Loops.{those-passes, those-set}
use Rattle.mat_cuts.proofs.Trees.{some_leaves, timed-is, IsGrowing-cost, IsGrowing-first, IsGrowing-next, IsGrowing-spans}
use Rattle.mat_cuts.proofs.growing.grow.Goals as goal

pub timed_arcs-requires : goal.timed_arcs-requires
timed_arcs-requires c =
    let same = ap length c.as_slice-since.ensures.value in
    let long = c.requires.raised.since_long in
    let few = c.requires.graph.few in
    omega arith

pub loop-init : goal.loop-init
loop-init c = record {
  grows = IsGrowing-first c.args.vertices c.args.arcs.now c.args.costs.now c.args.root c.args.raised.now.cuts.items c.new-reached.result c.insert.new.self
      c.new-tree.result c.new-reached.ensures c.in_ok-insert.ensures.ok c.new-tree.ensures.members c.requires.root c.requires.raised.each;
  size = ap (λ t. suc (length t)) c.new-tree.ensures.members;
}

pub earliest-requires-clause-long : goal.earliest-requires-clause-long
earliest-requires-clause-long c = ap length c.as_slice-since.ensures.value ∙ c.requires.raised.since_long

pub earliest-requires-clause-set : goal.earliest-requires-clause-set
earliest-requires-clause-set c =
    let since = c.args.raised.now.since.items in
    let those = timed-is _ since _ _ _ c.deref.ensures.value c.in_ok-timed.ensures c.as_slice-since.ensures.value c.requires.raised.since_long in
    those-set (length c.args.arcs.now) (is_timed since) c.deref.result.now those

pub earliest-requires-clause-timed : goal.earliest-requires-clause-timed
earliest-requires-clause-timed c = λ a m.
    let since = c.args.raised.now.since.items in
    let those = timed-is _ since _ _ _ c.deref.ensures.value c.in_ok-timed.ensures c.as_slice-since.ensures.value c.requires.raised.since_long in
    let early = ltb-true (at since a) never (those-passes (length c.args.arcs.now) (is_timed since) c.deref.result.now those a m) in
    let read = ap (λ s. at s a) c.as_slice-since.ensures.value in
    omega arith

pub unreachable-requires : goal.unreachable-requires
unreachable-requires c =
    let arcs = c.args.arcs.now in
    let since = c.args.raised.now.since.items in
    let those = timed-is _ since _ _ _ c.deref.ensures.value c.in_ok-timed.ensures c.as_slice-since.ensures.value c.requires.raised.since_long in
    let tells = subst (TellsEarliest (ends_of arcs) c.as_slice-since.result.now c.deref.result.now c.loop.reached) c.in_default.is c.earliest.ensures in
    some_leaves c.args.vertices arcs c.args.costs.now c.args.root c.args.raised.now.cuts.items since c.deref.result.now c.loop.reached c.loop.tree
    (length c.args.raised.now.cuts.items) c.requires.few those c.requires.leads c.loop.invariant.grows
    (let s = c.loop.invariant.size in let t = c.loop-test.true in omega arith) tells

pub loop-preserved : goal.loop-preserved
loop-preserved c =
    let arcs = c.args.arcs.now in
    let since = c.args.raised.now.since.items in
    let those = timed-is _ since _ _ _ c.deref.ensures.value c.in_ok-timed.ensures c.as_slice-since.ensures.value c.requires.raised.since_long in
    let early = subst (TellsEarliest (ends_of arcs) c.as_slice-since.result.now c.deref.result.now c.loop.reached) c.in-Some.is c.earliest.ensures in
    let next = IsGrowing-next c.args.vertices arcs c.args.costs.now c.args.root c.args.raised.now.cuts.items c.args.raised.now.reduced.items
    since c.as_slice-since.result.now c.deref.result.now c.loop.reached c.loop.tree c.insert-in-loop.new.self c.add.new.self c.in-Some.a
    c.as_slice-since.ensures.value those c.requires.raised c.requires.graph early c.loop.invariant.grows c.in_ok-insert-2.ensures.ok c.in_ok-add.ensures.ok.1 in
    record { grows = next.0; size = (let l = next.1 in let s = c.loop.invariant.size in omega arith) }

pub returns-clause-spans : goal.returns-clause-spans
returns-clause-spans c = IsGrowing-spans c.args.vertices c.args.arcs.now c.args.costs.now c.args.root c.args.raised.now.cuts.items c.loop.reached c.loop.tree
    c.loop.invariant.grows (let s = c.loop.invariant.size in let t = c.loop-test.false in let r = c.requires.root in omega (arith, c.loop.auto.counter-end))

pub returns-clause-cost : goal.returns-clause-cost
returns-clause-cost c = IsGrowing-cost c.args.vertices c.args.arcs.now c.args.costs.now c.args.root c.args.raised.now.cuts.items c.loop.reached c.loop.tree
    c.requires.raised.each c.loop.invariant.grows
    (let s = c.loop.invariant.size in let t = c.loop-test.false in let r = c.requires.root in omega (arith, c.loop.auto.counter-end))
