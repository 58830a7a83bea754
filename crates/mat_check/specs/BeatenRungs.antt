-- The rungs whose sets are beaten: some independent set of as many elements is heavier under the rung's half of its split.
use Rattle.std.specs.Prelude.{◌≡◌, ℕ, ◌<◌, Bool, true, false, List, length, Some, slice_get, slice_index_or}
use Rattle.mat_sets.specs.Weights.{weight_at}
use Rattle.mat_laws.specs.Searches.{is_beaten}
use Rattle.mat_cert.specs.declared.answer.PricedRung.{PricedRung}
use Rattle.mat_check.specs.Halves.{half_of}
use Rattle.mat_check.specs.declared.ladder.halves.Side.{Side}

-- whether the set of a rung is beaten in a matroid under its half; of a dependent set nothing is told
abbrev pub IsJudged : ℕ → (List ℕ → Bool) → Side → PricedRung → Bool → Type 0
IsJudged n independent side rung beaten =
    independent rung.set ≡ true → beaten ≡ is_beaten n independent (weight_at (half_of side rung)) rung.set

-- the same of each rung, as far as the list goes
abbrev pub AreJudged : ℕ → (List ℕ → Bool) → Side → List PricedRung → List Bool → Type 0
AreJudged n independent side rungs beaten =
    (k : ℕ) (rung : PricedRung) → slice_get rungs k ≡ Some rung → k < length beaten
    → IsJudged n independent side rung (slice_index_or beaten k false)
