-- From a split set of k elements to one of k + 1, or to the cut. The split grows until a search has no slack; where it then finds a path, the
-- set is exchanged along it, and otherwise the reached set is the cut.
use Rattle.mat_split.proofs.Common.{◌≡◌, ℕ, suc, ◌+◌, ◌*◌, ◌^◌, ◌<◌, ◌≤◌, Bool, true, List, length, ◌⊎◌, inl, inr, sym, ◌∙◌, subst, arith, mul-le, largest_weight, IsWeightWithin, Weight, IsMatroid, rows_of, IsCut, exchanges_at, exchanged_along, is_heaviest_addable, is_tight, IsStuckReach, IsSplitAt}
use Rattle.mat_split.proofs.Common.{cut_without_slack, gains_at_heaviest, heaviest_at_gains, rows_tell_exchanges, IsTableAt-rows_of, exchange_along_tight_path, IsWeightWithin-weaken}
use Rattle.mat_sets.proofs.Reach.{finite_reach}
use Rattle.mat_exchange.proofs.Growing.{AreExchangesOn}
use Rattle.mat_exchange.proofs.GrownSplitsExist.{grown_split_exists}
use Rattle.mat_exchange.proofs.GrowthSteps.{exchanges_on}

-- some split set of k elements within the bound
abbrev pub SomeSplit : ℕ → (List ℕ → Bool) → (List ℕ → Bool) → (ℕ → Weight) → ℕ → ℕ → Type 0
SomeSplit n p q w k h = (I : List ℕ) × (w1 : ℕ → Weight) × (w2 : ℕ → Weight) × IsSplitAt n p q w k h I w1 w2

-- one of k + 1 elements, or a cut that shows that there is none
abbrev pub NextOrCut : ℕ → (List ℕ → Bool) → (List ℕ → Bool) → (ℕ → Weight) → ℕ → ℕ → Type 0
NextOrCut n p q w k h = SomeSplit n p q w (suc k) h ⊎ ((cut : List ℕ) × IsCut n p q k cut)

-- the bound of the next size has room for what one search adds
room : (n h : ℕ) → 0 < n → h + 4 * 10 ^ 12 * n ≤ h + 2 * 10 ^ 12 * (n + 1) * (n + 1)
room n h some = let more = mul-le (2 * 10 ^ 12 * 2) n (2 * 10 ^ 12 * (n + 1)) (n + 1) (omega arith) (omega arith) in omega arith

exchanges_at_on : {n : ℕ} {p : List ℕ → Bool} → IsMatroid n p → (I : List ℕ) → p I ≡ true → AreExchangesOn n I (exchanges_at p I)
exchanges_at_on {n} {p} laws I ok =
    subst (AreExchangesOn n I) (rows_tell_exchanges laws I) (exchanges_on n I (rows_of n p I) (IsTableAt-rows_of laws I ok))

module _ {n : ℕ} {p q : List ℕ → Bool} (lp : IsMatroid n p) (lq : IsMatroid n q) (w : ℕ → Weight) (base : ℕ)
    (small : (x : ℕ) → x < n → IsWeightWithin largest_weight (w x)) (I : List ℕ) where
  -- the next set, or the cut
  pub next_or_cut : (w1 w2 : ℕ → Weight) → IsSplitAt n p q w (length I) base I w1 w2
      → NextOrCut n p q w (length I) (base + 2 * 10 ^ 12 * (n + 1) * (n + 1))
  next_or_cut w1 w2 at =
      let a = exchanges_at p I in
      let b = exchanges_at q I in
      let grown = grown_split_exists (exchanges_at_on lp I at.first.passes) (exchanges_at_on lq I at.second.passes) w1 w2
      (λ x l. subst (IsWeightWithin largest_weight) (sym (at.split.adds x l)) (small x l)) (gains_at_heaviest lp w1 I at.first) (gains_at_heaviest lq w2 I at.second) in
      let v1 = grown.0 in
      let v2 = grown.1 in
      let now = grown.2 in
      let first = heaviest_at_gains lp v1 I at.first.passes now.first_gains in
      let second = heaviest_at_gains lq v2 I at.second.passes now.second_gains in
      elim (finite_reach n (is_tight a b v1 v2) (is_heaviest_addable n a v1) (is_heaviest_addable n b v2)) [
        | inl path ↦ (let step = exchange_along_tight_path lp lq v1 v2 I path.0 first second path.1 in
            inl (
              exchanged_along I path.0,
              v1,
              v2,
              record {
                size = step.0;
                first = step.1;
                second = step.2;
                split = record {
                  adds = λ x l. now.adds x l ∙ at.split.adds x l;
                  within = λ x l. IsWeightWithin-weaken (base + 4 * 10 ^ 12 * n) (base + 2 * 10 ^ 12 * (n + 1) * (n + 1)) (v2 x) (room n base (omega arith))
                      (now.within base at.split.within x l);
                };
              },
            ))
        | inr reached ↦
            let stuck : IsStuckReach n a b v1 v2 reached.0 = record { reached = reached.1; no_sink = reached.2 } in
            inr (reached.0, cut_without_slack lp lq v1 v2 I reached.0 at.first.passes at.second.passes stuck.reached.set (now.ends reached.0 stuck))
      ]
