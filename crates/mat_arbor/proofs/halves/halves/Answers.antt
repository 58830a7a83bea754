use Rattle.mat_arbor.proofs.Common.{◌∙◌, ◌<◌, ◌^◌, get_or, length, ap, subst, sym, arith, get_or-map, length-map, All-from_get_or, weight_at, zero_weight, IsWeightWithin, weight_of}
use Rattle.mat_arbor.proofs.Sizes.{weight_of-within}
use Rattle.mat_arbor.proofs.halves.halves.Goals as goal

pub second_half-requires-clause-first : goal.second_half-requires-clause-first
second_half-requires-clause-first c =
    let held = c.args.held.now in
    let u = c.args.unit in
    let s = c.in_ok-shift.shift in
    let made = c.as_slice.ensures.value ∙ c.in_ok-first.ensures in
    let below = c.in_ok-shift.ensures.below in
    let unit = c.requires.unit in
    let few = c.requires.few in
    All-from_get_or (IsWeightWithin (10 ^ 36)) c.as_slice.result.now zero_weight (λ a l.
    let inside : a < length held = omega (arith, ap length made, length-map held (weight_of u s)) in
    let small = c.requires.small a inside in
    subst (IsWeightWithin (10 ^ 36)) (sym (ap (λ xs. weight_at xs a) made ∙ get_or-map (weight_of u s) held a 0 zero_weight inside))
    (weight_of-within u s (get_or held a 0) (10 ^ 36) (omega arith)))
