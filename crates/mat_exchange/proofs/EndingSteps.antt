-- The growing search ends: a member of the reached set has become a sink, or no change lets an element in or makes one a sink. The change is put on
-- the weights of the whole set, and the halves have grown; the root and the greatest weight of what can be added in the second are as before.
use Rattle.mat_exchange.proofs.Common.{◌≡◌, ℕ, ◌^◌, true, List, Option, Some, refl, sym, ◌∙◌, subst, arith, both_ways, ints, is_member, zero_weight, ◌⊕◌, ◌⊖◌, ◌≼◌, weight_at, IsWeightWithin, Weight, pairs, Exchange, exchanges_in, change_room, lowered, raised, IsHeaviestWeightOrNone, IsAdditionSlack}
use Rattle.mat_exchange.proofs.Common.{IsLeast, NextStep, Sink, Nothing, IsGrownSplit, IsHeaviestOf, IsNextStep, excess_of, sum_at, heaviest_addable_gives}
use Rattle.mat_exchange.proofs.GrowthChanges.{growing_by, enters_late, levelled_by_sink, sink_by_slack}
use Rattle.mat_exchange.proofs.Growing.{IsGrowing, root_heaviest, grown_by_sink, grown_without_slack}
use Rattle.mat_exchange.proofs.ChangesSoFar.{lowered_twice, raised_twice, least_sink_at, no_sink, top_stays_at}
use Rattle.mat_exchange.proofs.WeightBounds.{difference_within}
use mathlib.Core.Path.{fun_ext}
use Rattle.mat_exchange.proofs.GrowthSteps.{IsGrowth, second_small, reached_below, total_small, late_from_here}

module _ {n : ℕ} {I : List ℕ} {first second : List Exchange} {u1 u2 : List Weight} {root : ℕ} {R O F : List ℕ} {total : Weight}
    {w1 w2 g : List Weight} {top inside : Option Weight} (now : IsGrowth n I first second u1 u2 root R O F total w1 w2 g top inside) where
  -- ---- a sink

  module _ {slack : Option Weight} (from : slack ≡ excess_of top inside) {step : NextStep} {d : Weight} (is : step ≡ Sink d)
      (next : IsNextStep F (weight_at g) slack step) where
    sinks : (slack ≡ Some d) × ((y : ℕ) → is_member y F ≡ true → (weight_at g y ⊕ d) ≼ zero_weight)
    sinks = subst (IsNextStep F (weight_at g) slack) is next

    sink_least : IsLeast (IsAdditionSlack n (exchanges_in second) (raised (weight_at w2) R total) R) (d ⊖ total)
    sink_least = least_sink_at n (exchanges_in second) (weight_at w2) R total now.shifted.second_on.adds_below top inside d now.top_now now.inside_now
        (sym from ∙ sinks.0)

    sink_low : zero_weight ≼ (d ⊖ total)
    sink_low =
        let s = sink_least.has in
        low s.value ((heaviest_addable_gives n (exchanges_in second) (raised (weight_at w2) R total) s.top s.heaviest).most s.element
        (reached_below now.shifted s.element s.inside) s.adds)
      where
        low : {a b c : Weight} → a ≡ b ⊖ c → c ≼ b → zero_weight ≼ a
        low v le = omega (arith, ints, pairs)

    pub sink_within : IsWeightWithin change_room d
    sink_within =
        let s = sink_least.has in
        together d total (total_small now.shifted) (difference_within (10 ^ 26) (10 ^ 26) (10 ^ 27) _ _ (d ⊖ total) (omega arith) s.value
        (second_small now.shifted s.top s.below) (second_small now.shifted s.element (reached_below now.shifted s.element s.inside)))
      where
        together : (d t : Weight) → IsWeightWithin (10 ^ 27) t → IsWeightWithin (10 ^ 27) (d ⊖ t) → IsWeightWithin change_room d
        together d t ht hd = omega (arith, ints, pairs)

    total_low : total ≼ d
    total_low = let low = sink_low in omega (arith, ints, pairs)

    -- the change of the whole set
    grown_to_sink : IsGrowing n (exchanges_in first) (exchanges_in second) (sum_at (weight_at u1) (weight_at u2)) (weight_at u2) root R O
        (lowered (lowered (weight_at w1) R total) R (d ⊖ total)) (raised (raised (weight_at w2) R total) R (d ⊖ total))
    grown_to_sink =
        let s = now.shifted in
        growing_by s.first_on s.second_on s.growing (d ⊖ total) sink_low
        (enters_late s.growing now.fringe (d ⊖ total) (late_from_here now d sinks.1))
        (λ plus. levelled_by_sink s.small s.growing (d ⊖ total) plus sink_least)

    module _ (v1 v2 : List Weight) (fell : (z : ℕ) → weight_at v1 z ≡ lowered (weight_at w1) R d z)
        (rose : (z : ℕ) → weight_at v2 z ≡ raised (weight_at w2) R d z) where
      first_same : (z : ℕ) → weight_at v1 z ≡ lowered (lowered (weight_at w1) R total) R (d ⊖ total) z
      first_same z = fell z ∙ sym (lowered_twice (weight_at w1) R total (d ⊖ total) d refl z)

      second_same : (z : ℕ) → weight_at v2 z ≡ raised (raised (weight_at w2) R total) R (d ⊖ total) z
      second_same z = rose z ∙ sym (raised_twice (weight_at w2) R total (d ⊖ total) d refl z)

      pub sunk : IsGrownSplit n (exchanges_in first) (exchanges_in second) (sum_at (weight_at u1) (weight_at u2)) (weight_at u2)
          (weight_at v1) (weight_at v2)
      sunk =
          let same1 : weight_at v1 ≡ lowered (lowered (weight_at w1) R total) R (d ⊖ total) = fun_ext first_same in
          let same2 : weight_at v2 ≡ raised (raised (weight_at w2) R total) R (d ⊖ total) = fun_ext second_same in
          let sink = sink_by_slack (d ⊖ total) now.shifted.second_on.adds_below sink_least in
          rw (same1, same2) (grown_by_sink grown_to_sink sink.0 sink.1 sink.2)

      -- the root is still a heaviest addable element of the first matroid
      pub sunk_root : IsHeaviestOf (exchanges_in first).adds (weight_at v1) root
      sunk_root =
          let same : lowered (lowered (weight_at w1) R total) R (d ⊖ total) ≡ weight_at v1 = fun_ext (λ z. sym (first_same z)) in
          subst (λ (w : ℕ → Weight). IsHeaviestOf (exchanges_in first).adds w root) same
          (root_heaviest grown_to_sink now.shifted.first_on.adds_below)

      -- and the greatest weight of what can be added in the second is as before
      pub sunk_top : IsHeaviestWeightOrNone (exchanges_in second).adds (weight_at v2) top
      sunk_top =
          let same : raised (weight_at w2) R d ≡ weight_at v2 = fun_ext (λ z. sym (rose z)) in
          subst (λ (w : ℕ → Weight). IsHeaviestWeightOrNone (exchanges_in second).adds w top) same
          (top_stays_at n (exchanges_in second) (weight_at w2) R total now.shifted.second_on.adds_below top inside d now.top_now now.inside_now
          total_low (sym from ∙ sinks.0))

  -- ---- nothing is left

  pub ended : {slack : Option Weight} → slack ≡ excess_of top inside → {step : NextStep} → step ≡ Nothing
      → IsNextStep F (weight_at g) slack step
      → (v1 v2 : List Weight) → ((z : ℕ) → weight_at v1 z ≡ lowered (weight_at w1) R total z)
      → ((z : ℕ) → weight_at v2 z ≡ raised (weight_at w2) R total z)
      → IsGrownSplit n (exchanges_in first) (exchanges_in second) (sum_at (weight_at u1) (weight_at u2)) (weight_at u2)
      (weight_at v1) (weight_at v2)
  ended {slack} from is next v1 v2 fell rose =
      let s = now.shifted in
      let none = subst (IsNextStep F (weight_at g) slack) is next in
      let same1 : weight_at v1 ≡ lowered (weight_at w1) R total = fun_ext fell in
      let same2 : weight_at v2 ≡ raised (weight_at w2) R total = fun_ext rose in
      rw (same1, same2) (grown_without_slack s.growing
      (λ x e xo entry. both_ways _ (none.1 x) (now.fringe.most x e xo entry).0)
      (no_sink n (exchanges_in second) (weight_at w2) R total s.second_on.adds_below top inside now.top_now now.inside_now (sym from ∙ none.0)))

  pub ended_root : (v1 : List Weight) → ((z : ℕ) → weight_at v1 z ≡ lowered (weight_at w1) R total z)
      → IsHeaviestOf (exchanges_in first).adds (weight_at v1) root
  ended_root v1 fell =
      let same : lowered (weight_at w1) R total ≡ weight_at v1 = fun_ext (λ z. sym (fell z)) in
      subst (λ (w : ℕ → Weight). IsHeaviestOf (exchanges_in first).adds w root) same
      (root_heaviest now.shifted.growing now.shifted.first_on.adds_below)

  pub ended_top : (v2 : List Weight) → ((z : ℕ) → weight_at v2 z ≡ raised (weight_at w2) R total z)
      → IsHeaviestWeightOrNone (exchanges_in second).adds (weight_at v2) top
  ended_top v2 rose =
      let same : raised (weight_at w2) R total ≡ weight_at v2 = fun_ext (λ z. sym (rose z)) in
      subst (λ (w : ℕ → Weight). IsHeaviestWeightOrNone (exchanges_in second).adds w top) same now.top_now
