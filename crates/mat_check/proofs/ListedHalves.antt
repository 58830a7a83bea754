-- Each rung has the number of a listed half that is its own: so heaviest sets are weighed under the listed halves alone.
use Rattle.mat_check.proofs.Common.{◌≡◌, ℕ, ◌+◌, ◌<◌, List, [], length, get_or, map, sym, subst, ◌∙◌, arith, get_or-map, weight_at, Weight, element_count, is_independent, tree_of, AreHeaviestWeights, StandFrom, StandFrom_at, AreListed, AreSumsUnder, half_at}
use Rattle.mat_any.specs.declared.any.AnyMatroid.{AnyMatroid}

-- the weights of heaviest sets under the listed halves are those of each rung, by the number of its half
pub sums_of_rung : (m : AnyMatroid) (halves sums : List (List Weight)) (listed own : List ℕ) → AreListed halves listed own
    → length sums ≡ length listed → StandFrom (AreSumsUnder (m, map (half_at halves) listed)) 0 sums
    → (k : ℕ) → k < length own
    → AreHeaviestWeights (element_count (tree_of m)) (is_independent (tree_of m)) (weight_at (half_at halves k))
    (get_or (map (λ j. get_or sums j []) own) k [])
sums_of_rung m halves sums listed own l count stand k inside =
    let n = element_count (tree_of m) in
    let p = is_independent (tree_of m) in
    let j = get_or own k 0 in
    let j_inside : j < length sums = subst (λ m. j < m) (sym count) (l.own_inside k inside) in
    let at : 0 + j ≡ j = omega arith in
    let here : AreSumsUnder (m, map (half_at halves) listed) j (get_or sums j []) =
    subst (λ i. AreSumsUnder (m, map (half_at halves) listed) i (get_or sums j [])) at
    (StandFrom_at (AreSumsUnder (m, map (half_at halves) listed)) 0 sums j [] stand j_inside) in
    let half : half_at (map (half_at halves) listed) j ≡ half_at halves k =
    get_or-map (half_at halves) listed j 0 [] (l.own_inside k inside) ∙ l.same k inside in
    let row : get_or (map (λ j. get_or sums j []) own) k [] ≡ get_or sums j [] = get_or-map (λ j. get_or sums j []) own k 0 [] inside in
    subst (λ s. AreHeaviestWeights n p (weight_at (half_at halves k)) s) (sym row)
    (subst (λ w. AreHeaviestWeights n p (weight_at w) (get_or sums j [])) half here)
