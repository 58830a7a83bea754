-- What a search along tight arcs is given (Frank 1981; Schrijver, chapter 41).
use Rattle.std.specs.Prelude.{◌≡◌, ◌≤◌, ℕ, List, length, Option}
use Rattle.mat_sets.specs.Limits.{most_elements}
use Rattle.mat_sets.specs.Weights.{weight_at}
use Rattle.mat_sets.specs.declared.weight.Weight.{Weight}
use Rattle.mat_laws.specs.declared.exchange.Exchange.{Exchange}
use Rattle.mat_laws.specs.TightPaths.{exchanges_in}
use Rattle.mat_exchange.specs.Tables.{IsTableAt}
use Rattle.mat_exchange.specs.HeaviestAddable.{IsHeaviestWeightOrNone}

-- tables of rows at a set, two weights of each element, and the greatest weights of the elements that can be added
pub record AreTightArcs (set : List ℕ) (first second : List Exchange) (w1 w2 : List Weight) (top1 top2 : Option Weight) : Type 0 where
  pub few : length w1 ≤ most_elements
  pub lengths : length w2 ≡ length w1
  pub first_table : IsTableAt (length w1) set first
  pub second_table : IsTableAt (length w1) set second
  pub first_top : IsHeaviestWeightOrNone (exchanges_in first).adds (weight_at w1) top1
  pub second_top : IsHeaviestWeightOrNone (exchanges_in second).adds (weight_at w2) top2
