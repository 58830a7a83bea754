use Rattle.mat_flow.proofs.Common.{◌<◌, length, get_or, arith}
use Rattle.mat_flow.proofs.LinkTables.{IsShifting-next, IsShifting-end}
use Rattle.mat_flow.proofs.link_table.shift_along.Goals as goal

pub loop-v-preserved : goal.loop-v-preserved
loop-v-preserved c =
    let walk = c.args.walk.now in
    let i = c.loop-v.v-index in
    let l = c.loop-v-test.true in
    let inside : get_or walk i 0 < length c.loop-v.table.items = omega (arith, c.requires.below i l, c.loop-v.invariant.long) in
    IsShifting-next c.args.first walk c.args.table.now.items i c.loop-v.table.items c.loop-v.carried _
    c.requires.differ l inside c.loop-v.invariant c.index-entry.ensures

pub returns : goal.returns
returns c = IsShifting-end _ _ _ _ _ _ (omega (arith, c.loop-v-test.false, c.loop-v.auto.v-index-end)) c.loop-v.invariant
