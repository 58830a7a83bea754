-- Rungs with the weights of their sets.
use Rattle.std.specs.Prelude.{ℕ, ◌≤◌, List, length, All}
use Rattle.mat_sets.specs.Limits.{most_elements}
use Rattle.mat_sets.specs.Sets.{AllBelow}
use Rattle.mat_sets.specs.declared.weight.Weight.{Weight}
use Rattle.mat_sets.specs.Weights.{weight}
use Rattle.mat_split.specs.declared.ladder.Rung.{Rung}
use Rattle.mat_cert.specs.declared.answer.PlainRung.{PlainRung}
use Rattle.mat_cert.specs.declared.answer.PricedRung.{PricedRung}

-- a rung with the weight of its set
abbrev pub priced_rung : List Weight → Rung → PricedRung
priced_rung w rung = record { weight = weight w rung.set; set = rung.set; first = rung.first; second = rung.second }

-- a set with its weight
abbrev pub plain_rung : List Weight → List ℕ → PlainRung
plain_rung w set = record { weight = weight w set; set = set }

-- the set of each rung has elements below n, and at most 500
abbrev pub HaveFewElements : ℕ → List Rung → Type 0
HaveFewElements n rungs = All (λ rung. AllBelow n rung.set × (length rung.set ≤ most_elements)) rungs

-- each set has elements below n, and at most 500
abbrev pub AreSmallSets : ℕ → List (List ℕ) → Type 0
AreSmallSets n sets = All (λ set. AllBelow n set × (length set ≤ most_elements)) sets
