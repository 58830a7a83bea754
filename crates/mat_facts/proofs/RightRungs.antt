-- A right ladder of two rules gives facts that hold and suffice: each rung bounds its size by the terms of its set, and the cut all sizes.
use Rattle.mat_facts.proofs.Common.{◌≡◌, ◌+◌, ◌<◌, ℕ, zero, suc, Bool, true, List, [], ◌∷◌, ◌++◌, length, map, None, Some, slice_get, inl, inr, refl, sym, ap, ◌∙◌, subst, arith, length-map, All-append, All-cons, Contains-append_left, Contains-append_right, same_Some, all_below, minus, ◌⊕◌}
use Rattle.mat_facts.proofs.Common.{weight, weight_at, Weight, IsSet-all_below, IsSet-minus, at_most_same, IsMatroid, rank, Instance, Certificate, PlainRung, PricedRung, IsRightLadder, AddUp, AllowsAtMost, HasFewAbove, AreAllowedRungs, IsAllowedRung, plain_rung, Fact, allowed, at_most}
use Rattle.mat_facts.proofs.Common.{few_above, shared, Holds, AllAllow, rule_count, size_of, weights_of, cut_facts, ladder_facts, rung_facts, shares_of, size_facts, sizes_facts, ShowsNoLarger, list_at}
use Rattle.std.specs.List.{All, Contains}
use Rattle.mat_laws.proofs.BestLadders.{split_weight}
use Rattle.mat_facts.proofs.GivenBounds.{FallingBound, allows_rank, bound_by_two, divided_by_cut, terms_of}
use Rattle.mat_facts.proofs.HeaviestTerms.{terms_of_heaviest}
use Rattle.mat_facts.proofs.BestOfRungs.{ShowsFallingRungs}
use Rattle.mat_facts.proofs.TermSums.{sum_of_two}
use Rattle.mat_facts.proofs.ListedFacts.{all_three, all_told, all_two, stands_in_told, stands_later}

-- a rung without its split comes of one that has it
of_mapped : (rungs : List PricedRung) (k : ℕ) (rung : PlainRung) → slice_get (map plain_rung rungs) k ≡ Some rung
    → (found : PricedRung) × (slice_get rungs k ≡ Some found) × (plain_rung found ≡ rung)
of_mapped [] k rung at = absurd (none at)
  where
    none : None ≡ Some rung → ⊥
    none e = cc
of_mapped (r ∷ rs) zero rung at = (r, refl, same_Some _ _ at)
of_mapped (r ∷ rs) (suc k) rung at = of_mapped rs k rung at

-- two shares of each element
pub two_shares_add : (n : ℕ) (w first second : List Weight) → length first ≡ n → length second ≡ n
    → ((e : ℕ) → e < n → weight_at first e ⊕ weight_at second e ≡ weight_at w e) → AddUp n 2 w (first ∷ second ∷ [])
two_shares_add n w first second one other h = record {
  lists = refl;
  long = long;
  sums = λ e l. sum_of_two (λ i. weight_at (list_at (first ∷ second ∷ []) i) e) ∙ h e l;
}
  where
    long : (i : ℕ) → i < 2 → length (list_at (first ∷ second ∷ []) i) ≡ n
    long zero l = one
    long (suc zero) l = other
    long (suc (suc i)) l = absurd (omega arith)

-- what holds of the facts of a size by two shares
pub size_holds : (H : Fact → Type 0) (first second : List Weight) (set : List ℕ) → H (shared (first ∷ second ∷ []))
    → H (few_above 0 first (terms_of first set)) → H (few_above 1 second (terms_of second set)) → All H (size_facts (first ∷ second ∷ []) set)
size_holds H first second set a b c =
    all_three H (shared (first ∷ second ∷ [])) (few_above 0 first (terms_of first set)) (few_above 1 second (terms_of second set)) a b c

module _ (told : ℕ → Bool) (problem : Instance) (answer : Certificate) (n : ℕ) (p q : List ℕ → Bool) (w : List Weight) (lp : IsMatroid n p) (lq : IsMatroid n q)
    (rungs : List PricedRung) (cut : List ℕ) (right : IsRightLadder n p q w rungs cut) where
  -- what a form of answer adds: that facts on the two rules are facts of the problem
  module _ (holds_allowed : Holds problem answer allowed)
      (holds_shares : (shares : List (List Weight)) → AddUp n 2 w shares → Holds problem answer (shared shares))
      (holds_first : (share terms : List Weight) → HasFewAbove n p share terms → Holds problem answer (few_above 0 share terms))
      (holds_second : (share terms : List Weight) → HasFewAbove n q share terms → Holds problem answer (few_above 1 share terms))
      (holds_outer : (S : List ℕ) (c : ℕ) → AllowsAtMost n p S c → Holds problem answer (at_most 0 S c))
      (holds_inner : (S : List ℕ) (c : ℕ) → AllowsAtMost n q S c → Holds problem answer (at_most 1 S c)) where
    rung_holds : (k : ℕ) (rung : PricedRung) → slice_get rungs k ≡ Some rung → All (Holds problem answer) (size_facts (shares_of rung) rung.set)
    rung_holds k rung at =
        let is = (right.each k rung at).right in
        size_holds (Holds problem answer) rung.first rung.second rung.set
        (holds_shares (shares_of rung) (two_shares_add n w rung.first rung.second is.first_length is.second_length is.split))
        (holds_first rung.first (terms_of rung.first rung.set) (record { long = is.first_length; few = terms_of_heaviest lp (weight_at rung.first) rung.set is.first_heaviest }))
        (holds_second rung.second (terms_of rung.second rung.set) (record { long = is.second_length; few = terms_of_heaviest lq (weight_at rung.second) rung.set is.second_heaviest }))

    cut_holds : All (Holds problem answer) (cut_facts n p q cut)
    cut_holds =
        let outer = minus (all_below n) cut in
        all_two (Holds problem answer) (at_most 0 outer (rank p outer)) (at_most 1 cut (rank q cut))
        (holds_outer outer (rank p outer) (allows_rank lp outer (IsSet-minus n (all_below n) cut (IsSet-all_below n))))
        (holds_inner cut (rank q cut) (allows_rank lq cut right.ends.set))

    pub ladder_holds : All (Holds problem answer) (ladder_facts told n p q rungs cut)
    ladder_holds =
        let sizes = sizes_facts told rung_facts 0 rungs in
        All-cons (Holds problem answer) allowed (sizes ++ cut_facts n p q cut) holds_allowed
        (All-append (Holds problem answer) sizes (cut_facts n p q cut) (all_told told rung_facts (Holds problem answer) 0 rungs rung_holds) cut_holds)

  -- the sets are allowed
  pub ladder_allowed : (weights_of problem ≡ w) → ((X : List ℕ) → p X ≡ true → q X ≡ true → AllAllow problem X)
      → AreAllowedRungs problem (map plain_rung rungs)
  ladder_allowed same two k rung at =
      let found = of_mapped rungs k rung at in
      let r = right.each k found.0 found.1 in
      subst (IsAllowedRung problem k) found.2 (record {
        size = r.right.size;
        allow = two found.0.set r.right.first_heaviest.passes r.right.second_heaviest.passes;
        priced = r.priced ∙ ap (λ v. weight v found.0.set) (sym same);
      })

  -- they suffice, in any list in which they stand
  module _ (two : rule_count problem ≡ 2) (size : size_of problem ≡ n) (facts : List Fact)
      (within : (fact : Fact) → Contains (ladder_facts told n p q rungs cut) fact → Contains facts fact) where
    abbrev in_ladder : List Fact
    in_ladder = sizes_facts told rung_facts 0 rungs

    of_rung : (k : ℕ) (rung : PricedRung) → slice_get rungs k ≡ Some rung → told k ≡ true → (fact : Fact)
        → Contains (rung_facts rung) fact → Contains facts fact
    of_rung k rung at is fact h =
        within fact (stands_later fact allowed (in_ladder ++ cut_facts n p q cut) (Contains-append_left in_ladder (cut_facts n p q cut) fact
        (stands_in_told told rung_facts 0 rungs k rung fact at (let same : k ≡ 0 + k = omega arith in subst (λ j. told j ≡ true) same is) h)))

    of_cut : (fact : Fact) → Contains (cut_facts n p q cut) fact → Contains facts fact
    of_cut fact h = within fact (stands_later fact allowed (in_ladder ++ cut_facts n p q cut) (Contains-append_right in_ladder (cut_facts n p q cut) fact h))

    pub rung_bounds : (k : ℕ) (rung : PricedRung) → slice_get rungs k ≡ Some rung → told k ≡ true → FallingBound problem facts k rung.weight
    rung_bounds k rung at told_here =
        let r = right.each k rung at in
        let is = r.right in
        let tell = of_rung k rung at told_here in
        let split = split_weight n p q w k rung.set rung.first rung.second is rung.set (lp.sets rung.set is.first_heaviest.passes) in
        bound_by_two problem facts k rung.weight rung.set is.size two rung.first rung.second
        (tell (shared (shares_of rung)) (0, omega arith, refl)) (tell (few_above 0 rung.first (terms_of rung.first rung.set)) (1, omega arith, refl))
        (tell (few_above 1 rung.second (terms_of rung.second rung.set)) (2, omega arith, refl))
        (at_most_same _ _ (sym (r.priced ∙ split)))

    pub no_larger : ShowsNoLarger problem facts (length rungs)
    no_larger =
        let outer = minus (all_below n) cut in
        inr (inl (divided_by_cut problem facts (length rungs) n cut (rank p outer) (rank q cut) two size
        (of_cut (at_most 0 outer (rank p outer)) (0, omega arith, refl)) (of_cut (at_most 1 cut (rank q cut)) (1, omega arith, refl))
        (let some = right.some in let ranks = right.ends.ranks in omega arith)))

    pub each_rung_shown : ShowsFallingRungs told problem (map plain_rung rungs) facts
    each_rung_shown = record {
      says_allowed = within allowed (0, omega arith, refl);
      each = λ k rung at is.
          let found = of_mapped rungs k rung at in
          subst (λ (r : PlainRung). FallingBound problem facts k r.weight) found.2 (rung_bounds k found.0 found.1 is);
      larger = subst (ShowsNoLarger problem facts) (sym (length-map rungs plain_rung)) no_larger;
    }
