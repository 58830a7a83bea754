use Rattle.mat_witness.proofs.Common.{◌≡◌, ◌∙◌, ℕ, ◌+◌, ◌<◌, Bool, ltb, List, [], ◌∷◌, ◌++◌, length, filter, map, take, sym, ap, subst, map-append, take_more, filter-append, weight_at, zero_weight, Weight, falling_weights, demand_for, Demand, demand_at}
use Rattle.mat_witness.proofs.demands.demands_under.Goals as goal

-- one value more
filtered_more : (test : Demand → Bool) (at : Weight → Demand) (ts : List Weight) (i : ℕ) → i < length ts
    → filter test (map at (take (i + 1) ts)) ≡ filter test (map at (take i ts)) ++ filter test (at (weight_at ts i) ∷ [])
filtered_more test at ts i l =
    ap (λ xs. filter test (map at xs)) (take_more ts i zero_weight l)
    ∙ ap (filter test) (map-append at (take i ts) (weight_at ts i ∷ [])) ∙ filter-append test (map at (take i ts)) (at (weight_at ts i) ∷ [])

pub loop-at-preserved : goal.loop-at-preserved
loop-at-preserved c = λ tree.
    let test = λ (demand : Demand). ltb demand.most c.args.k in
    let at = demand_at tree c.args.set.now c.args.half.now in
    let falling = falling_weights c.args.half.now in
    let i = c.loop-at.at-index in
    let same : c.as_slice-at-items.result.now ≡ falling = c.as_slice-at-items.ensures.value ∙ c.in_ok-falling.ensures in
    c.in_ok-push_if_fewer.ensures tree
    ∙ ap (λ listed. listed ++ filter test (demand_for tree c.in_ok-demand.demand ∷ [])) (c.loop-at.invariant tree)
    ∙ ap (λ demand. filter test (map at (take i falling)) ++ filter test (demand ∷ []))
    (c.in_ok-demand.ensures tree ∙ ap (λ ts. at (weight_at ts i)) same)
    ∙ sym (filtered_more test at falling i (subst (λ ts. i < length ts) same c.loop-at-test.true))
