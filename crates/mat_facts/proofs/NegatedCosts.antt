-- Costs that count negated: what arcs weigh is their cost, negated.
use Rattle.mat_facts.proofs.Common.{◌≡◌, ◌<◌, ℕ, List, [], ◌∷◌, length, map, refl, ◌∙◌, arith, ints, get_or-map, IsSet, negated, weight, weight_at, weight_sum, zero_weight, Weight, below_member, pairs, weight_sum-same}

module _ (arcs : List (ℕ × ℕ)) (costs : List Weight) (long : length costs ≡ length arcs) where
  negated_sum : (Y : List ℕ) → weight_sum (λ a. negated (weight_at costs a)) Y ≡ negated (weight costs Y)
  negated_sum [] = refl
  negated_sum (y ∷ Y) = let later = negated_sum Y in omega (arith, ints, pairs)

  pub negated_weight : (Y : List ℕ) → IsSet (length arcs) Y → weight (map negated costs) Y ≡ negated (weight costs Y)
  negated_weight Y set =
      weight_sum-same (weight_at (map negated costs)) (λ a. negated (weight_at costs a)) Y
      (λ a m. let inside : a < length costs = let l = below_member set m in omega arith in get_or-map negated costs a zero_weight zero_weight inside)
      ∙ negated_sum Y
