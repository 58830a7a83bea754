use Rattle.mat_sets.proofs.Common.{◌+◌, length, take, arith, refl, subst, sym, IsEntered}
use Rattle.mat_sets.proofs.Rows.{IsEntered-more}
use Rattle.mat_sets.proofs.Sums.{AllBelow-at}
use Rattle.mat_sets.proofs.bit_rows.BitRows.insert_each.Goals as goal

pub insert-requires : goal.insert-requires
insert-requires c =
    let below = AllBelow-at (length c.args.self.now) c.args.places.now c.loop-i.i-index c.requires c.loop-i-test.true in
    omega (arith, below, c.loop-i.invariant.count)

pub loop-i-preserved : goal.loop-i-preserved
loop-i-preserved c =
    let i = c.loop-i.i-index in
    let places = c.args.places.now in
    subst (λ rows. IsEntered c.args.k (take (i + 1) places) c.args.self.now rows) (sym c.in_ok-insert.ensures.ok)
    (IsEntered-more c.args.k places i c.args.self.now c.loop-i.self _ c.loop-i-test.true
    (AllBelow-at (length c.args.self.now) places i c.requires c.loop-i-test.true) refl c.loop-i.invariant)
