use Rattle.mat_sets.proofs.Common.{◌≡◌, ◌<◌, length, get_or, rules, arith, ap, ints, zero_weight, weight_at}
use Rattle.mat_sets.proofs.Sums.{AllBelow-at}
use Rattle.mat_sets.proofs.WeightOrder.{pairs}
use Rattle.mat_sets.proofs.WeightSums.{weight_sum-more}
use Rattle.mat_sets.proofs.pair_weights.weigh.Goals as goal

pub loop-x-preserved : goal.loop-x-preserved
loop-x-preserved c =
    let i = c.loop-x.x-index in
    let xs = c.args.set.now in
    let ws = c.args.weights.now in
    let same : c.as_slice-x-items.result.now ≡ xs = search rules in
    let inside : i < length xs = let e = ap length same in omega arith in
    let read : get_or c.as_slice-x-items.result.now i 0 ≡ get_or xs i 0 = ap (λ z. get_or z i 0) same in
    let value : get_or ws (get_or c.as_slice-x-items.result.now i 0) zero_weight ≡ weight_at ws (get_or xs i 0) = ap (λ z. get_or ws z zero_weight) read in
    let more = weight_sum-more (weight_at ws) xs i inside in
    let small = c.requires.small (get_or xs i 0) zero_weight (AllBelow-at (length ws) xs i c.requires.inside inside) in
    let after = c.add_assign.ensures.after in
    let so_far = c.loop-x.invariant.so_far in
    record {
      so_far = omega (arith, ints, pairs);
      small = omega (arith, ints, pairs);
    }
