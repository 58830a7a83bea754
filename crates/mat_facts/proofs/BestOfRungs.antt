-- Where each rung bounds its size by steps that fall, the heaviest rung is heaviest of all sizes: the steps of the rung before it are not below
-- 0, since its set would weigh less otherwise; and the last step of the rung behind it is not above 0.
use Rattle.mat_facts.proofs.Common.{◌≡◌, true, Bool, ◌<◌, ◌≤◌, ◌-◌, ◌⊎◌, ℕ, suc, List, [], ◌∷◌, length, Some, slice_get, inl, inr, refl, sym, ap, ◌∙◌, subst, arith, cases_lt, ints, slice_get_cases, slice_get_within, ◌⊕◌, ◌≼◌, weight, zero_weight, Weight, at_most_same, at_most_trans, pairs, Instance, IsValid}
use Rattle.mat_facts.proofs.Common.{Certificate, PlainRung, AreAllowedRungs, Fact, allowed, few_above, shared, Holds, AllAllow, rule_at, rule_count, size_of, weights_of, BoundsEachSize, BoundsLarger, BoundsSize, BoundsSmaller, IsNothing, ShowsEachRung, ShowsNoLarger, list_at, step_at}
use Rattle.std.specs.List.{All, Contains}
use Rattle.mat_facts.proofs.GivenBounds.{FallingBound}
use Rattle.mat_facts.proofs.RulesOfProblems.{allowed_set}
use Rattle.mat_facts.proofs.SharedBounds.{before_last, by_terms, last_from, last_inside, last_low, past_last}
use Rattle.mat_facts.proofs.SufficientBounds.{said}
use Rattle.mat_facts.proofs.TermSums.{sum_more, sum_of_first, sums_agree}

-- each rung whose size is told bounds it by steps that fall, and none is larger
pub record ShowsFallingRungs (told : ℕ → Bool) (problem : Instance) (rungs : List PlainRung) (facts : List Fact) : Type 0 where
  pub says_allowed : Contains facts allowed
  pub each : (k : ℕ) (rung : PlainRung) → slice_get rungs k ≡ Some rung → told k ≡ true → FallingBound problem facts k rung.weight
  pub larger : ShowsNoLarger problem facts (length rungs)

-- if all are told, all are shown
pub rungs_shown : (told : ℕ → Bool) (problem : Instance) (rungs : List PlainRung) (facts : List Fact) → ((k : ℕ) → k < length rungs → told k ≡ true)
    → ShowsFallingRungs told problem rungs facts → ShowsEachRung problem rungs facts
rungs_shown told problem rungs facts all s = record {
  says_allowed = s.says_allowed;
  each = λ k rung at. inr (s.each k rung at (all k (slice_get_within rungs k rung at))).bound;
  larger = s.larger;
}

-- ---- steps

-- a sum that is no more than v, and with one step more no less, goes up
step_up : (v sum step : Weight) → sum ≼ v → v ≼ (sum ⊕ step) → zero_weight ≼ step
step_up v sum step h k = omega (arith, ints)

-- a sum that is no less than v, and with one step more no more, goes down
step_down : (v sum step : Weight) → v ≼ sum → (sum ⊕ step) ≼ v → step ≼ zero_weight
step_down v sum step h k = omega (arith, ints)

module _ (problem : Instance) (answer : Certificate) (facts : List Fact) (valid : IsValid problem) (hold : All (Holds problem answer) facts) where
  -- what m elements weigh at most by terms that are taken of a bound for j elements
  picked : (j m : ℕ) (v : Weight) (b : BoundsSize problem facts j v) (pick : ℕ → ℕ) (X : List ℕ) → AllAllow problem X → length X ≡ m
      → ((l : ℕ) → l < m → pick l ≤ l) → ((l : ℕ) → l < m → pick l < j)
      → weight (weights_of problem) X ≼ sum_of_first (λ l. step_at b.terms (rule_count problem) (pick l)) m
  picked j m v b pick X all size low inside =
      by_terms (size_of problem) (rule_count problem) (rule_at problem) (weights_of problem) b.shares b.terms
      (said problem answer facts valid hold (shared b.shares) b.says_shares)
      (λ i l. (said problem answer facts valid hold (few_above i (list_at b.shares i) (list_at b.terms i)) (b.says_terms i l)).1)
      pick m X (allowed_set problem valid X all) all size low
      (λ i l under less. let long = b.long i under in let small = inside l less in omega arith)

  abbrev step_of : {j : ℕ} {v : Weight} → BoundsSize problem facts j v → ℕ → Weight
  step_of b l = step_at b.terms (rule_count problem) l

  smaller_from : (j : ℕ) (v most : Weight) (b : FallingBound problem facts j v) → 0 < j → v ≼ most
      → (X : List ℕ) → AllAllow problem X → length X ≡ suc j → v ≼ weight (weights_of problem) X → BoundsSmaller problem facts j most
  smaller_from j v most b some le X all size heavy = record {
    bound = record {
      shares = b.bound.shares;
      terms = b.bound.terms;
      says_shares = b.bound.says_shares;
      says_terms = b.bound.says_terms;
      long = b.bound.long;
      total = at_most_trans _ _ _ b.bound.total le;
    };
    rising = λ l less. at_most_trans _ _ _ last_up (b.falls l (j - 1) (omega arith) (omega arith));
  }
    where
      last_up : zero_weight ≼ step_of b.bound (j - 1)
      last_up =
          let step = step_of b.bound in
          let own = picked j (suc j) v b.bound (last_from j) X all size (λ l h. last_low j l) (λ l h. last_inside j l j some refl) in
          let first = sums_agree (λ l. step (last_from j l)) step j (λ l h. ap step (before_last j l h)) in
          let last : step (last_from j j) ≡ step (j - 1) = ap step (past_last j j (omega arith)) in
          let more = sum_more (λ l. step (last_from j l)) j in
          let sum : sum_of_first (λ l. step (last_from j l)) (suc j) ≡ sum_of_first step j ⊕ step (j - 1) = omega (arith, ints, pairs) in
          step_up v (sum_of_first step j) (step (j - 1)) b.bound.total
          (at_most_trans _ _ _ heavy (at_most_trans _ _ _ own (at_most_same _ _ sum)))

  larger_from : (j : ℕ) (v most : Weight) (b : FallingBound problem facts (suc j) v) → v ≼ most
      → (X : List ℕ) → AllAllow problem X → length X ≡ j → v ≼ weight (weights_of problem) X → BoundsLarger problem facts (suc j) most
  larger_from j v most b le X all size heavy = record {
    bound = record {
      shares = b.bound.shares;
      terms = b.bound.terms;
      says_shares = b.bound.says_shares;
      says_terms = b.bound.says_terms;
      long = b.bound.long;
      total = at_most_trans _ _ _ b.bound.total le;
    };
    some = omega arith;
    falling = (let same : j ≡ suc j - 1 = omega arith in subst (λ l. step_at b.bound.terms (rule_count problem) l ≼ zero_weight) same last_down);
  }
    where
      last_down : step_of b.bound j ≼ zero_weight
      last_down =
          let step = step_of b.bound in
          let own = picked (suc j) j v b.bound (λ l. l) X all size (λ l h. omega arith) (λ l h. omega arith) in
          step_down v (sum_of_first step j) (step j) (at_most_trans _ _ _ heavy own)
          (at_most_trans _ _ _ (at_most_same _ _ (sym (sum_more step j))) b.bound.total)

  -- the heaviest of the rungs
  module _ (told : ℕ → Bool) (rungs : List PlainRung) (are : AreAllowedRungs problem rungs) (s : ShowsFallingRungs told problem rungs facts)
      (k : ℕ) (rung : PlainRung) (at : slice_get rungs k ≡ Some rung)
      (here : told k ≡ true) (before : told (k - 1) ≡ true) (behind : told (suc k) ≡ true)
      (heaviest : (j : ℕ) (other : PlainRung) → slice_get rungs j ≡ Some other → other.weight ≼ rung.weight) where
    weighs : weight (weights_of problem) rung.set ≡ rung.weight
    weighs = sym (are k rung at).priced

    -- it weighs at least nothing, as the empty set does
    not_below_nothing : 0 < length rungs → zero_weight ≼ rung.weight
    not_below_nothing some = elim (slice_get_cases rungs 0).1 [
      | inl found ↦
          let first = found.0 in
          let is = are 0 first found.2 in
          subst (λ v. v ≼ rung.weight) (is.priced ∙ nothing first.set is.size) (heaviest 0 first found.2)
      | inr past ↦ absurd (omega (arith, past.0))
    ]
      where
        nothing : (X : List ℕ) → length X ≡ 0 → weight (weights_of problem) X ≡ zero_weight
        nothing [] e = refl
        nothing (x ∷ X) e = absurd (omega arith)

    inside : k < length rungs
    inside = slice_get_within rungs k rung at

    smaller : IsNothing (k - 1) rung.weight ⊎ BoundsSmaller problem facts (k - 1) rung.weight
    smaller = elim (cases_lt (k - 1) 1) [
      | inl few ↦ inl (omega arith, not_below_nothing (omega (arith, inside)))
      | inr more ↦ elim (slice_get_cases rungs (k - 1)).1 [
        | inl found ↦
            let other = found.0 in
            let le = heaviest (k - 1) other found.2 in
            inr (smaller_from (k - 1) other.weight rung.weight (s.each (k - 1) other found.2 before) (omega arith) le rung.set (are k rung at).allow
            (let size = (are k rung at).size in omega arith) (subst (λ v. other.weight ≼ v) (sym weighs) le))
        | inr past ↦ absurd (omega (arith, past.0, inside))
      ]
    ]

    larger : ShowsNoLarger problem facts (suc k) ⊎ BoundsLarger problem facts (suc k) rung.weight
    larger = elim (slice_get_cases rungs (suc k)).1 [
      | inl found ↦
          let other = found.0 in
          let le = heaviest (suc k) other found.2 in
          inr (larger_from k other.weight rung.weight (s.each (suc k) other found.2 behind) le rung.set (are k rung at).allow
          (are k rung at).size (subst (λ v. other.weight ≼ v) (sym weighs) le))
      | inr past ↦ (let last : length rungs ≡ suc k = omega (arith, past.0, inside) in inl (subst (ShowsNoLarger problem facts) last s.larger))
    ]

    pub heaviest_shown : BoundsEachSize problem facts k rung.weight
    heaviest_shown = record { same = inr (s.each k rung at here).bound; smaller = smaller; larger = larger }
