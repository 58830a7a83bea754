use Rattle.mat_reasons.proofs.Common.{◌≡◌, ◌<◌, ◌++◌, [], ◌∷◌, length, get_or, rules, arith, sym, ap, ◌∙◌, map_more, zero_weight, weight_at, Weight}
use Rattle.mat_reasons.proofs.bounds.values_at.Goals as goal

pub loop-e-preserved : goal.loop-e-preserved
loop-e-preserved c =
    let i = c.loop-e.e-index in
    let xs = c.args.set.now in
    let ws = c.args.weights.now in
    let same : c.as_slice-e-items.result.now ≡ xs = search rules in
    let inside : i < length xs = let e = ap length same in omega arith in
    let value : get_or ws (get_or c.as_slice-e-items.result.now i 0) zero_weight ≡ weight_at ws (get_or xs i 0) = ap (λ z. get_or ws (get_or z i 0) zero_weight) same in
    c.in_ok-push.ensures.items ∙ ap (λ (z : Weight). c.loop-e.values.items ++ z ∷ []) value
    ∙ ap (λ vs. vs ++ weight_at ws (get_or xs i 0) ∷ []) c.loop-e.invariant ∙ sym (map_more (weight_at ws) xs i 0 inside)
