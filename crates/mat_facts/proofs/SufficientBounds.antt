-- What follows where facts hold that bound what sets weigh that all rules allow, and how many members they have.
use Rattle.mat_facts.proofs.Common.{◌≡◌, ◌<◌, ◌≤◌, ◌-◌, ℕ, suc, List, [], ◌∷◌, length, get_or, inl, inr, ⊎_elim, arith, cases_eq, cases_lt, All-contains, ◌≼◌, weight, Weight, IsSet-length, base_largest, Instance, IsValid, Certificate, Fact, at_most, shared, few_above, full, Holds, AllAllow}
use Rattle.mat_facts.proofs.Common.{rule_at, rule_count, rules_of, size_of, weights_of, BoundsEachSize, BoundsLarger, BoundsSmaller, IsNothing, ShowsNoHeavier, ShowsNoLarger, list_at}
use Rattle.std.specs.List.{All, Contains}
use Rattle.mat_facts.proofs.AllowedCounts.{divided_few}
use Rattle.mat_facts.proofs.RulesOfProblems.{allowed_set, rules_are_matroids, some_rule}
use Rattle.mat_facts.proofs.SharedBounds.{larger_bounded, size_bounded, smaller_bounded}

module _ (problem : Instance) (answer : Certificate) (facts : List Fact) (valid : IsValid problem) (hold : All (Holds problem answer) facts) where
  -- a fact that stands in the list holds
  pub said : (fact : Fact) → Contains facts fact → Holds problem answer fact
  said fact at = All-contains (Holds problem answer) facts fact hold at

  -- the empty set weighs nothing
  nothing_is_bounded : (k : ℕ) (most : Weight) → IsNothing k most → (X : List ℕ) → length X ≤ k → weight (weights_of problem) X ≼ most
  nothing_is_bounded k most none [] size = none.1
  nothing_is_bounded k most none (x ∷ X) size = absurd (omega arith)

  pub size_is_bounded : (k : ℕ) (most : Weight) → ShowsNoHeavier problem facts k most
      → (X : List ℕ) → AllAllow problem X → length X ≡ k → weight (weights_of problem) X ≼ most
  size_is_bounded k most (inl none) X all size = nothing_is_bounded k most none X (omega arith)
  size_is_bounded k most (inr b) X all size =
      size_bounded (size_of problem) (rule_count problem) (rule_at problem) (weights_of problem) b.shares b.terms
      (said (shared b.shares) b.says_shares) (λ i l. (said (few_above i (list_at b.shares i) (list_at b.terms i)) (b.says_terms i l)).1)
      k most b.long b.total X (allowed_set problem valid X all) all size

  smaller_is_bounded : (m : ℕ) (most : Weight) → BoundsSmaller problem facts m most
      → (X : List ℕ) → AllAllow problem X → length X ≤ m → weight (weights_of problem) X ≼ most
  smaller_is_bounded m most s X all size =
      let b = s.bound in
      smaller_bounded (size_of problem) (rule_count problem) (rule_at problem) (weights_of problem) b.shares b.terms
      (said (shared b.shares) b.says_shares) (λ i l. (said (few_above i (list_at b.shares i) (list_at b.terms i)) (b.says_terms i l)).1)
      m most b.long b.total s.rising X (allowed_set problem valid X all) all size

  larger_is_bounded : (m : ℕ) (most : Weight) → BoundsLarger problem facts m most
      → (X : List ℕ) → AllAllow problem X → m ≤ length X → weight (weights_of problem) X ≼ most
  larger_is_bounded m most s X all size =
      let b = s.bound in
      larger_bounded (size_of problem) (rule_count problem) (rule_at problem) (weights_of problem) b.shares b.terms
      (said (shared b.shares) b.says_shares) (λ i l. (said (few_above i (list_at b.shares i) (list_at b.terms i)) (b.says_terms i l)).1)
      m most b.long b.total s.some s.falling X (allowed_set problem valid X all) all size

  pub none_is_larger : (m : ℕ) → ShowsNoLarger problem facts m → (X : List ℕ) → AllAllow problem X → length X < m
  none_is_larger m (inl few) X all = let le = IsSet-length (size_of problem) X (allowed_set problem valid X all) in omega arith
  none_is_larger m (inr (inl d)) X all =
      let few = d.few in
      let most = divided_few (size_of problem) (rules_of problem) (list_at d.sides) (λ i. get_or d.most i 0) X (allowed_set problem valid X all) all
      (λ i l. (said (at_most i (list_at d.sides i) (get_or d.most i 0)) (d.says_most i l)).1) d.each in
      omega arith
  none_is_larger m (inr (inr f)) X all =
      let some = some_rule problem valid in
      let few = f.few in
      let most = base_largest ((rules_are_matroids problem valid).each 0 some) f.set X (said (full f.set) f.says_full).1 (all 0 some) in
      omega arith

  -- no set of any size weighs more
  pub each_size_is_bounded : (k : ℕ) (most : Weight) → BoundsEachSize problem facts k most
      → (X : List ℕ) → AllAllow problem X → weight (weights_of problem) X ≼ most
  each_size_is_bounded k most b X all = elim (cases_eq (length X) k) [
    | inl same ↦ size_is_bounded k most b.same X all same
    | inr other ↦ elim (cases_lt (length X) k) [
      | inl less ↦ ⊎_elim
          (λ (none : IsNothing (k - 1) most). nothing_is_bounded (k - 1) most none X (omega arith))
          (λ (s : BoundsSmaller problem facts (k - 1) most). smaller_is_bounded (k - 1) most s X all (omega arith)) b.smaller
      | inr more ↦ ⊎_elim
          (λ (s : ShowsNoLarger problem facts (suc k)). let few = none_is_larger (suc k) s X all in absurd (omega arith))
          (λ (s : BoundsLarger problem facts (suc k) most). larger_is_bounded (suc k) most s X all (omega arith)) b.larger
    ]
  ]
