-- A heaviest independent set of the same size tells whether an independent set is beaten, and no set has more elements than the rank.
use Rattle.mat_check.proofs.Common.{◌≡◌, ℕ, ◌<◌, Bool, true, List, [], length, get_or, inl, inr, sym, subst, ap, ◌∙◌, arith, cases_Bool, both_ways, get_or-map, length-map, is_below, weight_sum, zero_weight, Weight, not_below_gives, not_below_from, at_most_trans, IsMatroid, is_beaten}
use Rattle.mat_check.proofs.Common.{IsHeaviest-not_beaten, not_beaten-IsHeaviest, AreHeaviestWeights}
use Rattle.mat_laws.specs.Heaviest.{IsHeaviest}
use Rattle.mat_laws.proofs.RankLaws.{length-independent}

-- an independent set is beaten exactly where a heaviest set of its size is heavier
heaviest_beats : {n : ℕ} {p : List ℕ → Bool} → IsMatroid n p → (w : ℕ → Weight) (X Y : List ℕ) → p X ≡ true
    → length Y ≡ length X
    → IsHeaviest p w Y → is_below (weight_sum w X) (weight_sum w Y) ≡ is_beaten n p w X
heaviest_beats {n} {p} laws w X Y in_p size best = elim (cases_Bool (is_below (weight_sum w X) (weight_sum w Y))) [
  | inl less ↦ elim (cases_Bool (is_beaten n p w X)) [
    | inl beaten ↦ less ∙ sym beaten
    | inr none ↦ absurd (both_ways _ (not_below_from (weight_sum w X) (weight_sum w Y)
        ((not_beaten-IsHeaviest laws w X in_p none).most Y best.passes size)) less)
  ]
  | inr most ↦ most ∙ sym (IsHeaviest-not_beaten n p w X (record {
    passes = in_p;
    most = λ Z in_q same. at_most_trans (weight_sum w Z) (weight_sum w Y) (weight_sum w X) (best.most Z in_q (same ∙ sym size))
        (not_below_gives (weight_sum w X) (weight_sum w Y) most);
  }))
]

module _ {n : ℕ} {p : List ℕ → Bool} (laws : IsMatroid n p) (w : ℕ → Weight) (weights : List Weight)
    (heaviest : AreHeaviestWeights n p w weights) (X : List ℕ) (in_p : p X ≡ true) where
  inside_sets : length X < length heaviest.sets
  inside_sets =
      let most = length-independent laws X in_p in
      omega (arith, most, heaviest.heaviest.count)

  -- there is a weight for the size of each independent set
  pub weight_is_there : length X < length weights
  weight_is_there =
      let same = ap length heaviest.weighed ∙ length-map heaviest.sets (weight_sum w) in
      subst (λ m. length X < m) (sym same) inside_sets

  -- which tells whether the set is beaten
  pub weight_beats : is_below (weight_sum w X) (get_or weights (length X) zero_weight) ≡ is_beaten n p w X
  weight_beats =
      let best = heaviest.heaviest.each (length X) inside_sets in
      let item = ap (λ ws. get_or ws (length X) zero_weight) heaviest.weighed
      ∙ get_or-map (weight_sum w) heaviest.sets (length X) [] zero_weight inside_sets in
      ap (is_below (weight_sum w X)) item ∙ heaviest_beats laws w X (get_or heaviest.sets (length X) []) in_p best.0 best.1
