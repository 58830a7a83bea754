-- Which weights may be summed over a set, and which have a tie.
use Rattle.std.specs.Prelude.{ℕ, ◌≤◌, Bool, not, pos, List, length}
use Rattle.std.specs.Ordering.{int_eq}
use Rattle.mat_sets.specs.Limits.{largest_number, most_elements}
use Rattle.mat_sets.specs.Sets.{AllBelow}
use Rattle.mat_sets.specs.Weights.{AreWeightsWithin}
use Rattle.mat_sets.specs.declared.weight.Weight.{Weight}
use Rattle.mat_cert.specs.declared.answer.PricedRung.{PricedRung}

-- each member of the set has a weight, there are few members, and both numbers of each weight are within 10^30
pub record AreSummable (weights : List Weight) (set : List ℕ) : Type 0 where
  pub inside : AllBelow (length weights) set
  pub few : length set ≤ most_elements
  pub small : AreWeightsWithin largest_number weights

-- both parts of a rung's split may be summed over its set
pub record HasSummableShares (rung : PricedRung) : Type 0 where
  pub first : AreSummable rung.first rung.set
  pub second : AreSummable rung.second rung.set

-- whether a weight has a tie: one that is not 0
abbrev pub has_tie : Weight → Bool
has_tie w = not (int_eq w.tie (pos 0))
