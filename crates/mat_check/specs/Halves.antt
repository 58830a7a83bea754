-- The halves of the splits of rungs, each listed once as long as it stays the same.
use Rattle.std.specs.Prelude.{◌≡◌, ℕ, ◌<◌, List, [], length, map, slice_index_or}
use Rattle.mat_sets.specs.Weights.{weight_at}
use Rattle.mat_sets.specs.declared.weight.Weight.{Weight}
use Rattle.mat_any.specs.Trees.{element_count, is_independent}
use Rattle.mat_any.specs.Views.{tree_of}
use Rattle.mat_any.specs.declared.any.AnyMatroid.{AnyMatroid}
use Rattle.mat_greedy.specs.Greedy.{AreHeaviestWeights}
use Rattle.mat_cert.specs.declared.answer.PricedRung.{PricedRung}
use Rattle.mat_check.specs.declared.ladder.halves.Side.{Side}
use Rattle.mat_check.specs.declared.ladder.halves.Side.TheVariants.{First, Second}

-- the half of a rung's split that is given to this matroid
abbrev pub half_of : Side → PricedRung → List Weight
half_of First rung = rung.first
half_of Second rung = rung.second

-- those of all rungs, in order
abbrev pub halves_of : Side → List PricedRung → List (List Weight)
halves_of side rungs = map (half_of side) rungs

-- the half at a place
abbrev pub half_at : List (List Weight) → ℕ → List Weight
half_at halves k = slice_index_or halves k []

-- `listed` has places of halves; `own` has, for each of the first halves, the number of an entry of `listed` at whose place an equal half stands
pub record AreListed (halves : List (List Weight)) (listed own : List ℕ) : Type 0 where
  pub inside : (j : ℕ) → j < length listed → slice_index_or listed j 0 < length halves
  pub own_inside : (k : ℕ) → k < length own → slice_index_or own k 0 < length listed
  pub same : (k : ℕ) → k < length own → half_at halves (slice_index_or listed (slice_index_or own k 0) 0) ≡ half_at halves k

-- the weights of heaviest sets of each size of a matroid under the half with this number
abbrev pub AreSumsUnder : AnyMatroid × List (List Weight) → ℕ → List Weight → Type 0
AreSumsUnder (m, halves) j sums = AreHeaviestWeights (element_count (tree_of m)) (is_independent (tree_of m)) (weight_at (half_at halves j)) sums
