use Rattle.mat_witness.proofs.Common.{◌∙◌, ap, get_or, set, arith, get_or_default, map_over_more, evened}
use Rattle.mat_witness.proofs.parts.columns.rows.make_even.Goals as goal

pub loop-i-preserved : goal.loop-i-preserved
loop-i-preserved c =
    let numbers = c.loop-i.numbers in
    let i = c.loop-i.i in
    let within = c.loop-i-test.true in
    let long = c.loop-i.auto.numbers in
    ap (set numbers i) c.evened.ensures
    ∙ map_over_more (evened c.args.row c.args.column) c.args.numbers.now numbers i (get_or numbers i 0) within c.loop-i.invariant
    (get_or_default numbers i 0 (get_or numbers i 0) (omega arith))
