use Rattle.mat_witness.proofs.Common.{◌≡◌, true, not, get_or, sym, ◌∙◌, arith, column_of, inner_product_is_one}
use Rattle.std.specs.List.{list_all}
use Rattle.mat_witness.proofs.PassingLists.{below_next, passes_each}
use Rattle.mat_witness.proofs.parts.columns.zeros.all_meet_evenly.Goals as goal

pub loop-number-preserved : goal.loop-number-preserved
loop-number-preserved c =
    let columns = c.args.columns.now in
    let numbers = c.args.numbers.now in
    below_next (λ i. list_all (λ e. not (inner_product_is_one (get_or numbers i 0) (column_of columns e))) c.args.set.now ≡ true)
    c.loop-number.number-index c.loop-number.invariant (sym c.meets_evenly.ensures ∙ c.if-not-meets_evenly.false)

pub returns : goal.returns
returns c =
    let columns = c.args.columns.now in
    let over = c.loop-number-test.false in
    sym (passes_each (λ z. list_all (λ e. not (inner_product_is_one z (column_of columns e))) c.args.set.now) c.args.numbers.now
    (λ i l. c.loop-number.invariant i (omega arith)))
