use Rattle.mat_cuts.proofs.Common.{◌≡◌, get_or, sym, ap, subst, arith, ints, largest_number, IsWithin, CutWeight, AllByRecursion-at}
use Rattle.mat_cuts.proofs.Adding.{all_weight-more}
use Rattle.mat_cuts.proofs.checking.total_weight.Goals as goal

pub overflow_add-total : goal.overflow_add-total
overflow_add-total c =
    let item = c.cut-item.result in
    let one = subst (λ (d : CutWeight). IsWithin largest_number d.weight) (sym c.cut-item.is)
    (AllByRecursion-at (λ d. IsWithin largest_number d.weight) c.args.cuts.now c.loop-cut.cut-index item c.loop-cut-test.true c.requires.small) in
    let small = c.loop-cut.invariant.small in
    let few = c.requires.few in
    let inside = c.loop-cut-test.true in
    omega (arith, ints)

pub loop-cut-preserved : goal.loop-cut-preserved
loop-cut-preserved c =
    let item = c.cut-item.result in
    let one = subst (λ (d : CutWeight). IsWithin largest_number d.weight) (sym c.cut-item.is)
    (AllByRecursion-at (λ d. IsWithin largest_number d.weight) c.args.cuts.now c.loop-cut.cut-index item c.loop-cut-test.true c.requires.small) in
    let more = all_weight-more c.args.cuts.now c.loop-cut.cut-index item c.loop-cut-test.true in
    let same : item.weight ≡ (get_or c.args.cuts.now c.loop-cut.cut-index item).weight = ap (λ (d : CutWeight). d.weight) c.cut-item.is in
    let so_far = c.loop-cut.invariant.so_far in
    let small = c.loop-cut.invariant.small in
    let few = c.requires.few in
    let inside = c.loop-cut-test.true in
    record { so_far = omega (arith, ints); small = (omega (arith, ints), omega (arith, ints)) }
