-- Two optimal ladders of the same matroids and weights have as many rungs, and rungs of the same weights. So their words are the same.
use Rattle.mat_summary.proofs.Common.{◌≡◌, ℕ, suc, ◌≤◌, Bool, List, [], ◌∷◌, length, get_or, Some, refl, sym, ◌∙◌, arith, slice_get, slice_get-get_or, Weight, at_most_both, IsRightLadder, IsOptimalLadder, ladder_weight, ladder_words, last_weight, PricedRung}

-- rungs at the same place have the same weight
abbrev HaveSameWeights : List PricedRung → List PricedRung → Type 0
HaveSameWeights rungs others =
    (k : ℕ) (rung other : PricedRung) → slice_get rungs k ≡ Some rung → slice_get others k ≡ Some other → rung.weight ≡ other.weight

last_weight-same : (rungs others : List PricedRung) → length rungs ≡ length others → HaveSameWeights rungs others
    → last_weight rungs ≡ last_weight others
last_weight-same [] [] long same = refl
last_weight-same (rung ∷ []) (other ∷ []) long same = same 0 rung other refl refl
last_weight-same (_ ∷ next ∷ rungs) (_ ∷ other ∷ others) long same =
    last_weight-same (next ∷ rungs) (other ∷ others) (omega arith) (λ k. same (suc k))
last_weight-same rungs others long same = absurd (omega arith)

ladder_weight-same : (rungs others : List PricedRung) → length rungs ≡ length others → HaveSameWeights rungs others
    → ladder_weight rungs ≡ ladder_weight others
ladder_weight-same [] [] long same = refl
ladder_weight-same (rung ∷ rungs) (other ∷ others) long same =
    rw (same 0 rung other refl refl, ladder_weight-same rungs others (omega arith) (λ k. same (suc k))) refl
ladder_weight-same rungs others long same = absurd (omega arith)

ladder_words-same : (rungs others : List PricedRung) → length rungs ≡ length others → HaveSameWeights rungs others
    → ladder_words rungs ≡ ladder_words others
ladder_words-same rungs others long same =
    rw (long, last_weight-same rungs others long same, ladder_weight-same rungs others long same) refl

module _ (n : ℕ) (p q : List ℕ → Bool) (w : List Weight) where
  -- the last set of a ladder is no larger than that of another
  no_longer : (rungs others : List PricedRung) (cut : List ℕ) → IsRightLadder n p q w rungs cut → IsOptimalLadder p q w rungs
      → IsOptimalLadder p q w others → length rungs ≤ length others
  no_longer [] others cut right optimal other = absurd (omega (arith, right.some))
  no_longer (first ∷ rungs) others cut right optimal other =
      let k = length rungs in
      let last = slice_get-get_or (first ∷ rungs) k first (omega arith) in
      let heaviest = optimal.heaviest k (get_or (first ∷ rungs) k first) last in
      let inside = other.none_larger (get_or (first ∷ rungs) k first).set heaviest.in_first heaviest.in_second in
      omega (arith, inside, heaviest.size)

  same_weights : (rungs others : List PricedRung) (cut cut2 : List ℕ) → IsRightLadder n p q w rungs cut → IsOptimalLadder p q w rungs
      → IsRightLadder n p q w others cut2 → IsOptimalLadder p q w others → HaveSameWeights rungs others
  same_weights rungs others cut cut2 right optimal right2 optimal2 = λ k rung other at at2.
      let one = optimal.heaviest k rung at in
      let two = optimal2.heaviest k other at2 in
      (right.each k rung at).priced
      ∙ at_most_both _ _ (two.most rung.set one.in_first one.in_second one.size) (one.most other.set two.in_first two.in_second two.size)
      ∙ sym (right2.each k other at2).priced

  pub one_ladder : (rungs others : List PricedRung) (cut other_cut : List ℕ) → IsRightLadder n p q w rungs cut → IsOptimalLadder p q w rungs
      → IsRightLadder n p q w others other_cut → IsOptimalLadder p q w others → ladder_words rungs ≡ ladder_words others
  one_ladder rungs others cut other_cut right optimal other_right other_optimal =
      let shorter = no_longer rungs others cut right optimal other_optimal in
      let longer = no_longer others rungs other_cut other_right other_optimal optimal in
      ladder_words-same rungs others (omega (arith, shorter, longer))
      (same_weights rungs others cut other_cut right optimal other_right other_optimal)
