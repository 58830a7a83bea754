use Rattle.mat_graphic.proofs.Common.{◌-◌, length, arith, ends_of, AllBelow-at}
use Rattle.mat_graphic.proofs.Uniting.{table_none}
use Rattle.mat_graphic.proofs.graphic.unite_all.Goals as goal

pub loop-i-init : goal.loop-i-init
loop-i-init c = record {
  descending = c.requires.descending;
  united = table_none (ends_of c.args.edges.now) c.args.set.now c.args.parent.now c.len-i.result c.len-i.ensures.count c.requires.single;
}

pub unite_ends-requires-clause-below : goal.unite_ends-requires-clause-below
unite_ends-requires-clause-below c =
    let below = AllBelow-at (length c.args.edges.now) c.args.set.now (c.loop-i.i - 1) c.requires.below
    (omega (arith, c.len-i.ensures.count, c.loop-i-test.true, c.loop-i.auto.i)) in
    omega (arith, c.get.ensures.item)
