-- Where facts of the given forms stand in a list, they bound sizes: of one rule, and of two.
use Rattle.mat_facts.proofs.Common.{◌≡◌, ◌<◌, ◌≤◌, ◌+◌, ℕ, zero, suc, Bool, true, List, [], ◌∷◌, length, get_or, inl, inr, sym, ◌∙◌, subst, arith, cases_Bool, and_from, lt-ltb, not_from_false, ints, all_below, intersection, is_member, minus, IsSet, ◌⊕◌, ◌≼◌, weight, weight_at, Weight}
use Rattle.mat_facts.proofs.Common.{is_member-all_below, is_member-minus, IsRising-intersection, intersection-left, intersection-right, pairs, IsMatroid, rank, rising, rank_is, Instance, AllowsAtMost, Fact, at_most, few_above, shared, rule_count, size_of, BoundsSize, DividesElements}
use Rattle.mat_facts.proofs.Common.{falling_terms, list_at, step_at}
use Rattle.std.specs.List.{Contains}
use Rattle.mat_facts.proofs.DividedSets.{count_more, count_none, count_of_first}
use Rattle.mat_facts.proofs.FallingTerms.{length-falling_terms, sum-falling_terms, terms_fall}
use Rattle.mat_facts.proofs.TermSums.{sum_of_first, sum_of_one, sum_of_two, sums_exchange, sums_grow}

-- a rule allows at most the rank
pub allows_rank : {n : ℕ} {p : List ℕ → Bool} → IsMatroid n p → (S : List ℕ) → IsSet n S → AllowsAtMost n p S (rank p S)
allows_rank {n} {p} laws S set = record {
  set = set;
  most = λ X ok.
      (rank_is laws S set.rising).most (intersection X S)
      (laws.subsets (intersection X S) X (IsRising-intersection X S (rising laws X ok)) (intersection-left X S) ok) (intersection-right X S);
}

-- the terms that a set gives, by the share or the two shares of each element
abbrev pub terms_of : List Weight → List ℕ → List Weight
terms_of share set = falling_terms (weight_at share) set

abbrev one_list : List Weight → List ℕ → List (List Weight)
one_list w set = terms_of w set ∷ []

abbrev two_lists : List Weight → List Weight → List ℕ → List (List Weight)
two_lists first second set = terms_of first set ∷ terms_of second set ∷ []

pub total_of_one : (w : List Weight) (set : List ℕ) → sum_of_first (step_at (one_list w set) 1) (length set) ≡ weight w set
total_of_one w set =
    let term = λ (i l : ℕ). weight_at (list_at (one_list w set) i) l in
    sym (sums_exchange term 1 (length set)) ∙ sum_of_one (λ i. sum_of_first (term i) (length set)) ∙ sum-falling_terms (weight_at w) set

pub total_of_two : (first second : List Weight) (set : List ℕ)
    → sum_of_first (step_at (two_lists first second set) 2) (length set) ≡ weight first set ⊕ weight second set
total_of_two first second set =
    let term = λ (i l : ℕ). weight_at (list_at (two_lists first second set) i) l in
    let turned = sums_exchange term 2 (length set) in
    let rows = sum_of_two (λ i. sum_of_first (term i) (length set)) in
    let one = sum-falling_terms (weight_at first) set in
    let other = sum-falling_terms (weight_at second) set in
    omega (arith, ints, pairs)

-- a bound whose steps fall
pub record FallingBound (problem : Instance) (facts : List Fact) (k : ℕ) (most : Weight) : Type 0 where
  pub bound : BoundsSize problem facts k most
  pub falls : (i j : ℕ) → i ≤ j → j < k → step_at bound.terms (rule_count problem) j ≼ step_at bound.terms (rule_count problem) i

module _ (problem : Instance) (facts : List Fact) (k : ℕ) (most : Weight) (set : List ℕ) (size : length set ≡ k) where
  pub bound_by_one : rule_count problem ≡ 1 → (w : List Weight) → Contains facts (shared (w ∷ []))
      → Contains facts (few_above 0 w (terms_of w set)) → weight w set ≼ most → FallingBound problem facts k most
  bound_by_one one w says says_few le = record {
    bound = record {
      shares = w ∷ [];
      terms = one_list w set;
      says_shares = says;
      says_terms = by_rule;
      long = long;
      total = subst (λ r. sum_of_first (step_at (one_list w set) r) k ≼ most) (sym one)
          (subst (λ m. sum_of_first (step_at (one_list w set) 1) m ≼ most) size (subst (λ v. v ≼ most) (sym (total_of_one w set)) le));
    };
    falls = λ i j le l.
        sums_grow (λ r. weight_at (list_at (one_list w set) r) j) (λ r. weight_at (list_at (one_list w set) r) i) (rule_count problem)
        (λ r under. falling r i j under le (omega (arith, size)));
  }
    where
      by_rule : (i : ℕ) → i < rule_count problem → Contains facts (few_above i (list_at (w ∷ []) i) (list_at (one_list w set) i))
      by_rule zero l = says_few
      by_rule (suc i) l = absurd (omega (arith, one))

      falling : (r i j : ℕ) → r < rule_count problem → i ≤ j → j < length set
          → weight_at (list_at (one_list w set) r) j ≼ weight_at (list_at (one_list w set) r) i
      falling zero i j under le l = terms_fall (weight_at w) set i j le l
      falling (suc r) i j under le l = absurd (omega (arith, one))

      long : (i : ℕ) → i < rule_count problem → length (list_at (one_list w set) i) ≡ k
      long zero l = length-falling_terms (weight_at w) set ∙ size
      long (suc i) l = absurd (omega (arith, one))

  pub bound_by_two : rule_count problem ≡ 2 → (first second : List Weight) → Contains facts (shared (first ∷ second ∷ []))
      → Contains facts (few_above 0 first (terms_of first set)) → Contains facts (few_above 1 second (terms_of second set))
      → (weight first set ⊕ weight second set) ≼ most → FallingBound problem facts k most
  bound_by_two two first second says says_first says_second le = record {
    bound = record {
      shares = first ∷ second ∷ [];
      terms = two_lists first second set;
      says_shares = says;
      says_terms = by_rule;
      long = long;
      total = subst (λ r. sum_of_first (step_at (two_lists first second set) r) k ≼ most) (sym two)
          (subst (λ m. sum_of_first (step_at (two_lists first second set) 2) m ≼ most) size
          (subst (λ v. v ≼ most) (sym (total_of_two first second set)) le));
    };
    falls = λ i j le l.
        sums_grow (λ r. weight_at (list_at (two_lists first second set) r) j) (λ r. weight_at (list_at (two_lists first second set) r) i)
        (rule_count problem) (λ r under. falling r i j under le (omega (arith, size)));
  }
    where
      by_rule : (i : ℕ) → i < rule_count problem
          → Contains facts (few_above i (list_at (first ∷ second ∷ []) i) (list_at (two_lists first second set) i))
      by_rule zero l = says_first
      by_rule (suc zero) l = says_second
      by_rule (suc (suc i)) l = absurd (omega (arith, two))

      falling : (r i j : ℕ) → r < rule_count problem → i ≤ j → j < length set
          → weight_at (list_at (two_lists first second set) r) j ≼ weight_at (list_at (two_lists first second set) r) i
      falling zero i j under le l = terms_fall (weight_at first) set i j le l
      falling (suc zero) i j under le l = terms_fall (weight_at second) set i j le l
      falling (suc (suc r)) i j under le l = absurd (omega (arith, two))

      long : (i : ℕ) → i < rule_count problem → length (list_at (two_lists first second set) i) ≡ k
      long zero l = length-falling_terms (weight_at first) set ∙ size
      long (suc zero) l = length-falling_terms (weight_at second) set ∙ size
      long (suc (suc i)) l = absurd (omega (arith, two))

-- each element is in the cut or outside it
pub divided_by_cut : (problem : Instance) (facts : List Fact) (m n : ℕ) (cut : List ℕ) (outer inner : ℕ) → rule_count problem ≡ 2 → size_of problem ≡ n
    → Contains facts (at_most 0 (minus (all_below n) cut) outer) → Contains facts (at_most 1 cut inner) → outer + inner < m
    → DividesElements problem facts m
divided_by_cut problem facts m n cut outer inner two size says_outer says_inner few = record {
  sides = minus (all_below n) cut ∷ cut ∷ [];
  most = outer ∷ inner ∷ [];
  says_most = by_rule;
  each = λ e l. at e (subst (λ s. e < s) size l);
  few = subst (λ r. count_of_first (λ i. get_or (outer ∷ inner ∷ []) i 0) r < m) (sym two) both;
}
  where
    both : count_of_first (λ i. get_or (outer ∷ inner ∷ []) i 0) 2 < m
    both =
        let most = λ (i : ℕ). get_or (outer ∷ inner ∷ []) i 0 in
        let all = count_more most 1 in
        let one = count_more most 0 in
        let none = count_none most in
        omega arith

    by_rule : (i : ℕ) → i < rule_count problem
        → Contains facts (at_most i (list_at (minus (all_below n) cut ∷ cut ∷ []) i) (get_or (outer ∷ inner ∷ []) i 0))
    by_rule zero l = says_outer
    by_rule (suc zero) l = says_inner
    by_rule (suc (suc i)) l = absurd (omega (arith, two))

    at : (e : ℕ) → e < n → (i : ℕ) × (i < rule_count problem) × (is_member e (list_at (minus (all_below n) cut ∷ cut ∷ []) i) ≡ true)
    at e l = elim (cases_Bool (is_member e cut)) [
      | inl inside ↦ (1, omega (arith, two), inside)
      | inr outside ↦ (
        0,
        omega (arith, two),
        is_member-minus e (all_below n) cut ∙ and_from (is_member e (all_below n)) _ (is_member-all_below e n ∙ lt-ltb e n l) (not_from_false _ outside),
      )
    ]
