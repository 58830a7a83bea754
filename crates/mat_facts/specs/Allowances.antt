-- What a rule, which is a test of independence, allows of some elements, of their number and of their shares; and shares that add up.
use Rattle.std.specs.Prelude.{◌≡◌, ℕ, ◌<◌, ◌≤◌, Bool, true, List, length, count_by}
use Rattle.mat_sets.specs.Sets.{all_below, intersection, IsSet}
use Rattle.mat_sets.specs.Weights.{is_below, weight_at, weight_sum}
use Rattle.mat_sets.specs.declared.weight.Weight.{Weight}
use Rattle.mat_facts.specs.Terms.{list_at}

-- each set that the rule allows has at most c members in S, which is a set of elements
pub record AllowsAtMost (n : ℕ) (rule : List ℕ → Bool) (S : List ℕ) (c : ℕ) : Type 0 where
  pub set : IsSet n S
  pub most : (X : List ℕ) → rule X ≡ true → length (intersection X S) ≤ c

-- n elements have one share for each of so many rules, and these add up to their weights
pub record AddUp (n rules : ℕ) (w : List Weight) (shares : List (List Weight)) : Type 0 where
  pub lists : length shares ≡ rules
  pub long : (i : ℕ) → i < rules → length (list_at shares i) ≡ n
  pub sums : (e : ℕ) → e < n → weight_sum (λ i. weight_at (list_at shares i) e) (all_below rules) ≡ weight_at w e

-- each of n elements has a share, and each set that the rule allows has at most l members with a share above the l-th term, where terms are counted
-- from 0
pub record HasFewAbove (n : ℕ) (rule : List ℕ → Bool) (shares terms : List Weight) : Type 0 where
  pub long : length shares ≡ n
  pub few : (X : List ℕ) → rule X ≡ true → (l : ℕ) → l < length terms → count_by (λ x. is_below (weight_at terms l) (weight_at shares x)) X ≤ l
