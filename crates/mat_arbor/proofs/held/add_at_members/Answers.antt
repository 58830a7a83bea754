-- Members are distinct, so each weight is added once to what stood there before; the sum stays within the bounds that the call asks for.
use mir.Syntax.{w128}
use Rattle.mat_arbor.proofs.Common.{◌≡◌, ◌∙◌, ◌<◌, get_or, length, pos, arith, to_z, of_z, ints, to_z-of_z, get_or_default}
use Rattle.mat_sets.proofs.Sums.{AllBelow-at}
use Rattle.mat_arbor.proofs.Adding.{added_more, added_next}
use Rattle.mat_arbor.proofs.held.add_at_members.Goals as goal

pub index-requires : goal.index-requires
index-requires c =
    let below = AllBelow-at _ c.args.set.now c.loop-v.v-index c.requires.set.below c.loop-v-test.true in
    let long = c.loop-v.invariant.long in
    omega (arith, c.loop-v.sums.ok.0)

pub index_mut-requires : goal.index_mut-requires
index_mut-requires c =
    let below = AllBelow-at _ c.args.set.now c.loop-v.v-index c.requires.set.below c.loop-v-test.true in
    let long = c.loop-v.invariant.long in
    omega (arith, c.loop-v.sums.ok.0)

pub overflow_add-sum : goal.overflow_add-sum
overflow_add-sum c =
    let set = c.args.set.now in
    let i = c.loop-v.v-index in
    let x = get_or set i 0 in
    let sums = c.loop-v.sums.items in
    let below = AllBelow-at _ set i c.requires.set.below c.loop-v-test.true in
    let inside : x < length sums = (let long = c.loop-v.invariant.long in omega arith) in
    let read = c.index.ensures ∙ get_or_default sums x c.index.result.now (pos 0) inside in
    let fits : to_z w128 (of_z w128 c.args.weight) ≡ c.args.weight = to_z-of_z w128 c.args.weight c.ranges.weight in
    let was = added_next _ set i _ c.args.sums.now.items sums c.requires.set.rising c.loop-v-test.true c.loop-v.invariant below in
    let room = c.requires.room x below in
    let room_low = room.0 in let room_high = room.1 in
    let low = c.requires.small.0 in let high = c.requires.small.1 in
    omega (arith, ints)

pub loop-v-preserved : goal.loop-v-preserved
loop-v-preserved c =
    let set = c.args.set.now in
    let i = c.loop-v.v-index in
    let x = get_or set i 0 in
    let sums = c.loop-v.sums.items in
    let below = AllBelow-at _ set i c.requires.set.below c.loop-v-test.true in
    let inside : x < length sums = (let long = c.loop-v.invariant.long in omega arith) in
    let read = c.index.ensures ∙ get_or_default sums x c.index.result.now (pos 0) inside in
    let fits : to_z w128 (of_z w128 c.args.weight) ≡ c.args.weight = to_z-of_z w128 c.args.weight c.ranges.weight in
    let was = added_next _ set i _ c.args.sums.now.items sums c.requires.set.rising c.loop-v-test.true c.loop-v.invariant below in
    let room = c.requires.room x below in
    let room_low = room.0 in let room_high = room.1 in
    let low = c.requires.small.0 in let high = c.requires.small.1 in
    added_more _ set i _ c.args.sums.now.items sums c.requires.set.rising c.loop-v-test.true c.loop-v.invariant _ inside below (omega (arith, ints))
