use Rattle.mat_sets.proofs.Common.{◌+◌, length, take, arith, refl, subst, sym, IsEntered}
use Rattle.mat_sets.proofs.Rows.{IsEntered-more}
use Rattle.mat_sets.proofs.Sums.{AllBelow-at}
use Rattle.mat_sets.proofs.row_list.RowList.insert_each.Goals as goal

pub insert-requires-clause-place : goal.insert-requires-clause-place
insert-requires-clause-place c =
    let below = AllBelow-at (length c.args.self.now) c.args.places.now c.loop-i.i-index c.requires.places c.loop-i-test.true in
    omega (arith, below, c.loop-i.invariant.count)

pub loop-i-preserved : goal.loop-i-preserved
loop-i-preserved c =
    let i = c.loop-i.i-index in
    let places = c.args.places.now in
    subst (λ rows. IsEntered c.args.k (take (i + 1) places) c.args.self.now rows) (sym c.insert.ensures)
    (IsEntered-more c.args.k places i c.args.self.now c.loop-i.self _ c.loop-i-test.true
    (AllBelow-at (length c.args.self.now) places i c.requires.places c.loop-i-test.true) refl c.loop-i.invariant)
