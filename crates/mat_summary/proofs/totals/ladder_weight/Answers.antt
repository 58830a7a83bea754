use Rattle.mat_summary.proofs.Common.{◌≡◌, get_or, ap, arith, ints, All-get_or, largest_number, IsWeightWithin, pairs, PricedRung}
use Rattle.mat_summary.proofs.SummaryTotals.{ladder_weight-more}
use Rattle.mat_summary.proofs.totals.ladder_weight.Goals as goal

pub loop-rung-preserved : goal.loop-rung-preserved
loop-rung-preserved c =
    let rungs = c.args.rungs.now in
    let i = c.loop-rung.rung-index in
    let rung = c.rung-item.result in
    let same : rung.weight ≡ (get_or rungs i rung).weight = ap (λ (r : PricedRung). r.weight) c.rung-item.is in
    let one = All-get_or (λ (r : PricedRung). IsWeightWithin largest_number r.weight) rungs i rung c.loop-rung-test.true c.requires.small in
    let more = ladder_weight-more rungs i rung c.loop-rung-test.true in
    let after = c.add_assign.ensures.after in
    let so_far = c.loop-rung.invariant.so_far in
    let small = c.loop-rung.invariant.small in
    record {
      so_far = omega (arith, ints, pairs);
      small = omega (arith, ints, pairs);
    }
