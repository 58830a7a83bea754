-- No arc is lowered twice, so what is left at the next one is still its whole cost, and at least what is taken; after the last one exactly the
-- listed arcs are lowered.
use mir.Syntax.{w128}
use Rattle.mat_cuts.proofs.Common.{◌≡◌, ◌<◌, ◌∙◌, length, get_or, take, pos, ap, subst, inl, inr, refl, arith, to_z, of_z, ints, to_z-of_z, get_or_default, take_all, is_member, is_member-get_or, AllBelow-at, IsLowered}
use Rattle.mat_cuts.proofs.Loops.{IsLowered-more, IsLowered-next, IsLowered-same}
use Rattle.mat_cuts.proofs.lowering.lower.Goals as goal
use Rattle.mat_cuts.proofs.lowering.lower.Goals.{then-left-eq0, else-left-eq0}

pub index-requires : goal.index-requires
index-requires c =
    let below = AllBelow-at _ c.args.arcs.now c.loop-a.a-index c.requires.set.below c.loop-a-test.true in
    let long = c.loop-a.invariant.left_long in
    omega (arith, c.loop-a.reduced.ok.0)

pub index_mut-requires : goal.index_mut-requires
index_mut-requires c =
    let below = AllBelow-at _ c.args.arcs.now c.loop-a.a-index c.requires.set.below c.loop-a-test.true in
    let long = c.loop-a.invariant.left_long in
    omega (arith, c.loop-a.reduced.ok.0)

pub index_mut-requires-then-left-eq0 : goal.index_mut-requires-then-left-eq0
index_mut-requires-then-left-eq0 c =
    let below = AllBelow-at _ c.args.arcs.now c.loop-a.a-index c.requires.set.below c.loop-a-test.true in
    let long = c.loop-a.invariant.later_long in
    let same = c.requires.since in
    omega (arith, c.loop-a.since.ok.0)

pub overflow_sub-left : goal.overflow_sub-left
overflow_sub-left c =
    let arcs = c.args.arcs.now in
    let i = c.loop-a.a-index in
    let x = get_or arcs i 0 in
    let left = c.loop-a.reduced.items in
    let below = AllBelow-at _ arcs i c.requires.set.below c.loop-a-test.true in
    let inside : x < length left = (let long = c.loop-a.invariant.left_long in omega arith) in
    let read = c.index.ensures ∙ get_or_default left x c.index.result.now (pos 0) inside in
    let fits : to_z w128 (of_z w128 c.args.least) ≡ c.args.least = to_z-of_z w128 c.args.least c.ranges.least in
    let was = IsLowered-next _ _ c.args.time c.args.reduced.now.items c.args.since.now.items arcs i left c.loop-a.since.items c.requires.set
    c.loop-a-test.true c.loop-a.invariant in
    let cost = c.requires.range x below in
    let some = c.requires.some in
    let enough = c.requires.enough x (is_member-get_or arcs i x c.loop-a-test.true refl) in
    omega (arith, ints)

pub loop-a-preserved : goal.loop-a-preserved
loop-a-preserved c =
    let arcs = c.args.arcs.now in
    let i = c.loop-a.a-index in
    let x = get_or arcs i 0 in
    let left = c.loop-a.reduced.items in
    let later = c.loop-a.since.items in
    let fits : to_z w128 (of_z w128 c.args.least) ≡ c.args.least = to_z-of_z w128 c.args.least c.ranges.least in
    let below = AllBelow-at _ arcs i c.requires.set.below c.loop-a-test.true in
    let inside : x < length left = (let long = c.loop-a.invariant.left_long in omega arith) in
    let timed : x < length later = (let long = c.loop-a.invariant.later_long in let same = c.requires.since in omega arith) in
    let read = c.index.ensures ∙ get_or_default left x c.index.result.now (pos 0) inside in
    let was = IsLowered-next _ _ c.args.time c.args.reduced.now.items c.args.since.now.items arcs i left later c.requires.set
    c.loop-a-test.true c.loop-a.invariant in
    let cost = c.requires.range x below in
    let some = c.requires.some in
    let enough = c.requires.enough x (is_member-get_or arcs i x c.loop-a-test.true refl) in
    elim c.if-left-eq0.branch [
      | then-left-eq0 w ↦ rw w.since-is (IsLowered-more _ _ c.args.time c.args.reduced.now.items c.args.since.now.items arcs i left later _ _
          c.requires.set.rising c.loop-a-test.true inside (omega (arith, ints))
          (inr (refl, ((let none = w.if-left-eq0.true in omega (arith, ints)), timed))) c.loop-a.invariant)
      | else-left-eq0 w ↦ rw w.since-is (IsLowered-more _ _ c.args.time c.args.reduced.now.items c.args.since.now.items arcs i left later _ _
          c.requires.set.rising c.loop-a-test.true inside (omega (arith, ints))
          (inl (refl, λ none. w.if-left-eq0.false (omega (arith, ints)))) c.loop-a.invariant)
    ]

pub returns : goal.returns
returns c =
    let arcs = c.args.arcs.now in
    let reduced = c.args.reduced.now.items in
    let since = c.args.since.now.items in
    let i = c.loop-a.a-index in
    let fits : to_z w128 (of_z w128 c.args.least) ≡ c.args.least = to_z-of_z w128 c.args.least c.ranges.least in
    let all = take_all i arcs (let past = c.loop-a-test.false in omega arith) in
    IsLowered-same _ c.args.least c.args.time reduced since (λ a. is_member a (take i arcs)) (λ a. is_member a arcs)
    c.loop-a.reduced.items c.loop-a.since.items (λ a l. ap (is_member a) all)
    (subst (λ z. IsLowered (length reduced) (λ a. is_member a (take i arcs)) z c.args.time reduced c.loop-a.reduced.items since c.loop-a.since.items) fits
    c.loop-a.invariant)
