use Rattle.mat_witness.proofs.Common.{not, length, sym, arith, AllBelow-at, column_of, inner_product_is_one}
use Rattle.mat_witness.proofs.PassingLists.{passes_each}
use Rattle.mat_witness.proofs.parts.columns.zeros.meets_evenly.Goals as goal

pub bounds-columns-e : goal.bounds-columns-e
bounds-columns-e c = AllBelow-at (length c.args.columns.now) c.args.set.now c.loop-e.e-index c.requires c.loop-e-test.true

pub returns : goal.returns
returns c =
    let over = c.loop-e-test.false in
    sym (passes_each (λ e. not (inner_product_is_one c.args.number (column_of c.args.columns.now e))) c.args.set.now
    (λ i l. c.loop-e.invariant i (omega arith)))
