-- What the functions that make a witness ask of one another.
use Rattle.std.specs.Prelude.{◌≡◌, ℕ, ◌≤◌, true, List, length, drop}
use Rattle.mat_sets.specs.Limits.{most_elements}
use Rattle.mat_sets.specs.Sets.{IsSet, intersection}
use Rattle.mat_sets.specs.Weights.{weight_at}
use Rattle.mat_laws.specs.Heaviest.{IsHeaviest}
use Rattle.mat_laws.specs.Matroids.{IsMaximal}
use Rattle.mat_any.specs.Trees.{Tree, IsSound, element_count, is_independent}
use Rattle.mat_cert.specs.declared.answer.PricedRung.{PricedRung}
use Rattle.mat_problem.specs.Validity.{IsValidTree}
use Rattle.mat_witness.specs.Kinds.{is_witnessed}
use Rattle.mat_witness.specs.Parts.{BoundPart, IsBoundFor, WitnessParts}
use Rattle.mat_witness.specs.Shown.{AreBoundsFor, Demand, IsWitness, are_met, bounded_trees, bounds_common_sets, demands_of, shows_common_set, meets}

-- a sound matroid of a witnessed kind, with its numbers in range, on no more elements than there may be
pub record IsWitnessed (tree : Tree) : Type 0 where
  pub few : element_count tree ≤ most_elements
  pub sound : IsSound tree
  pub valid : IsValidTree (element_count tree) tree
  pub kind : is_witnessed tree ≡ true

-- two such matroids on as many elements
pub record AreWitnessed (first second : Tree) : Type 0 where
  pub first_matroid : IsWitnessed first
  pub second_matroid : IsWitnessed second
  pub same_count : element_count second ≡ element_count first

-- the members of X in the demanded set are a maximal independent subset of it, and as many as the demanded number
pub record IsFilled (tree : Tree) (X : List ℕ) (demand : Demand) : Type 0 where
  pub set : IsSet (element_count tree) demand.set
  pub maximal : IsMaximal (is_independent tree) demand.set (intersection X demand.set)
  pub number : length (intersection X demand.set) ≡ demand.most

-- the rung's set has k elements, and is heaviest of its size under both halves
pub record IsSplit (first second : Tree) (k : ℕ) (rung : PricedRung) : Type 0 where
  pub size : length rung.set ≡ k
  pub first_length : length rung.first ≡ element_count first
  pub second_length : length rung.second ≡ element_count second
  pub first_heaviest : IsHeaviest (is_independent first) (weight_at rung.first) rung.set
  pub second_heaviest : IsHeaviest (is_independent second) (weight_at rung.second) rung.set

-- the part is in range, and meets the demand
pub record IsMeeting (n : ℕ) (demand : Demand) (part : BoundPart) : Type 0 where
  pub kind : IsBoundFor n demand.tree part
  pub met : meets demand part ≡ true

-- the bounds of a rung: those that its demands ask for, and then both for the cut
pub record AreRungBounds (first second : Tree) (k : ℕ) (rung : PricedRung) (cut : List ℕ) (last : ℕ) (parts : List BoundPart) : Type 0 where
  pub kinds : AreBoundsFor (element_count first) (bounded_trees first second k rung) parts
  pub met : are_met (demands_of first second k rung) parts ≡ true
  pub ends : bounds_common_sets first second (element_count first) cut last (drop (length (demands_of first second k rung)) parts) ≡ true

-- a witness for the rung, whose parts show the set independent, and whose bounds are those of the rung
pub record IsRungWitness (first second : Tree) (k : ℕ) (rung : PricedRung) (cut : List ℕ) (last : ℕ) (witness : WitnessParts) : Type 0 where
  pub fits : IsWitness (element_count first) first second k rung witness
  pub free : shows_common_set first second witness rung.set ≡ true
  pub bounds : AreRungBounds first second k rung cut last witness.bounds
