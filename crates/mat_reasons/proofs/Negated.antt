-- Negated weights may be summed where the weights may.
use Rattle.mat_reasons.proofs.Common.{◌≡◌, ℕ, ◌+◌, ◌<◌, List, ◌∷◌, [], ◌++◌, length, get_or, map, take, ℤ, neg_ℤ, sym, ap, subst, ◌∙◌, arith, ints, map_more, length-map, get_or-map, largest_number, AllBelow, zero_weight, negated, AreWeightsWithin, IsWeightWithin, Weight, AreSummable}
use Rattle.std.proofs.lemmas.List.Elements.{All-get_or, All-from_get_or}
use Rattle.mat_sets.specs.Sums.{IsWithin}

pub negated_more : (weights others new : List Weight) (i : ℕ) → i < length weights
    → new ≡ others ++ negated (get_or weights i zero_weight) ∷ [] → others ≡ map negated (take i weights)
    → new ≡ map negated (take (i + 1) weights)
negated_more weights others new i l pushed before =
    pushed ∙ ap (λ xs. xs ++ negated (get_or weights i zero_weight) ∷ []) before ∙ sym (map_more negated weights i zero_weight l)

negated_small : (weights : List Weight) → AreWeightsWithin largest_number weights → AreWeightsWithin largest_number (map negated weights)
negated_small weights small = All-from_get_or (IsWeightWithin largest_number) (map negated weights) zero_weight (λ i l.
    let inside : i < length weights = rw (length-map weights negated) at l in
    let own = All-get_or (IsWeightWithin largest_number) weights i zero_weight inside small in
    rw (get_or-map negated weights i zero_weight zero_weight inside)
    (turned (get_or weights i zero_weight).main own.0, turned (get_or weights i zero_weight).tie own.1))
  where
    turned : (x : ℤ) → IsWithin largest_number x → IsWithin largest_number (neg_ℤ x)
    turned x (low, high) = (omega (arith, ints), omega (arith, ints))

pub negated_summable : (weights others : List Weight) (set : List ℕ) → others ≡ map negated weights → AreSummable weights set
    → AreSummable others set
negated_summable weights others set is before = record {
  inside = subst (λ m. AllBelow m set) (sym (ap length is ∙ length-map weights negated)) before.inside;
  few = before.few;
  small = subst (AreWeightsWithin largest_number) (sym is) (negated_small weights before.small);
}
