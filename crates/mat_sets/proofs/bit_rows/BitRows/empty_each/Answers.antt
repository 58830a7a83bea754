use Rattle.mat_sets.proofs.Common.{◌+◌, length, take, arith, subst, sym, AreEmptied}
use Rattle.mat_sets.proofs.Rows.{AreEmptied-none, AreEmptied-more}
use Rattle.mat_sets.proofs.Sums.{AllBelow-at}
use Rattle.mat_sets.proofs.bit_rows.BitRows.empty_each.Goals as goal

pub loop-i-init : goal.loop-i-init
loop-i-init c = AreEmptied-none c.args.places.now c.args.self.now

pub replace-requires : goal.replace-requires
replace-requires c =
    let below = AllBelow-at (length c.args.self.now) c.args.places.now c.loop-i.i-index c.requires c.loop-i-test.true in
    omega (arith, below, c.loop-i.invariant.count)

pub loop-i-preserved : goal.loop-i-preserved
loop-i-preserved c =
    let i = c.loop-i.i-index in
    let places = c.args.places.now in
    subst (λ rows. AreEmptied (take (i + 1) places) c.args.self.now rows) (sym c.replace.ensures)
    (AreEmptied-more places i c.args.self.now c.loop-i.self _ c.loop-i-test.true
    (AllBelow-at (length c.args.self.now) places i c.requires c.loop-i-test.true) c.in_ok-row.ensures c.loop-i.invariant)
