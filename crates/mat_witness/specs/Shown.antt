-- What a witness shows of one rung of a ladder of two matroids: that its set is heaviest of its size under both halves of its split, and that
-- no common independent set is larger than the last rung's (Frank 1981; Edmonds; Schrijver, chapter 41).
use Rattle.std.specs.Prelude.{◌≡◌, ℕ, ◌+◌, ◌≤◌, Bool, true, false, not, ◌&&◌, ◌==◌, nat_le, nat_lt, if◌then◌else◌}
use Rattle.std.specs.Prelude.{List, [], ◌∷◌, ◌++◌, length, map, drop, filter, Option, Some, None, slice_index_or}
use Rattle.std.specs.List.{list_all}
use Rattle.mat_sets.specs.Sets.{all_below, intersection, minus}
use Rattle.mat_sets.specs.Weights.{adds_up, is_same, weight, zero_weight}
use Rattle.mat_sets.specs.declared.weight.Weight.{Weight}
use Rattle.mat_laws.specs.CommonSets.{IsHeaviestCommon}
use Rattle.mat_laws.specs.Ladders.{IsCut, IsRung}
use Rattle.mat_sets.specs.FallingWeights.{falling_weights, heavy}
use Rattle.mat_any.specs.Trees.{Tree, is_independent}
use Rattle.mat_problem.specs.Instances.{Instance, pair}
use Rattle.mat_cert.specs.Certificates.{Certificate, intersect, last_rung}
use Rattle.mat_cert.specs.declared.answer.PricedRung.{PricedRung}
use Rattle.mat_witness.specs.BoundParts.{bound_of, shows_bound}
use Rattle.mat_witness.specs.FreeParts.{shows_free}
use Rattle.mat_witness.specs.Parts.{BoundPart, WitnessParts, IsBoundFor, IsFreeFor}

-- a set whose rank in a matroid has to be shown to be at most a number
pub record Demand : Type 0 where
  pub tree : Tree
  pub set : List ℕ
  pub most : ℕ

-- the elements that weigh at least t under a half, and how many members of the set do
abbrev pub demand_at : Tree → List ℕ → List Weight → Weight → Demand
demand_at tree set half t = record { tree = tree; set = heavy (length half) half t; most = length (intersection set (heavy (length half) half t)) }

-- the demands of a half: one for each of its different values, falling, at or above which fewer than k members of the set weigh
abbrev pub demands_under : Tree → ℕ → List ℕ → List Weight → List Demand
demands_under tree k set half = filter (λ demand. nat_lt demand.most k) (map (demand_at tree set half) (falling_weights half))

-- the demands of rung k: those of its first half in the first matroid, and those of its second half in the second
abbrev pub demands_of : Tree → Tree → ℕ → PricedRung → List Demand
demands_of first second k rung = demands_under first k rung.set rung.first ++ demands_under second k rung.set rung.second

-- a rung by its number; past the end an empty one
abbrev pub rung_at : List PricedRung → ℕ → PricedRung
rung_at rungs k = slice_index_or rungs k (record { weight = zero_weight; set = []; first = []; second = [] })

-- ---- the four parts

-- the elements are as many as the problem's, the printed weight is that of the set, and the halves add up to the weights
abbrev pub is_priced : List Weight → ℕ → PricedRung → Bool
is_priced w n rung =
    (n == length w) && (is_same rung.weight (weight w rung.set)
    && list_all (adds_up rung.first rung.second w) (all_below n))

-- the parts show that the set is independent in both matroids
abbrev pub shows_common_set : Tree → Tree → WitnessParts → List ℕ → Bool
shows_common_set first second witness set = shows_free first witness.first set && shows_free second witness.second set

-- whether a part shows what is demanded
abbrev pub meets : Demand → BoundPart → Bool
meets demand part = shows_bound demand.tree part demand.set && nat_le (bound_of demand.tree part) demand.most

-- whether each demand is met by the part at its place
abbrev pub are_met : List Demand → List BoundPart → Bool
are_met [] parts = true
are_met (demand ∷ demands) [] = false
are_met (demand ∷ demands) (part ∷ parts) = meets demand part && are_met demands parts

-- whether two parts bound the rank of the elements outside the cut in the first matroid, and that of the cut in the second, by numbers that
-- together are at most `last`
abbrev pub bounds_common_sets : Tree → Tree → ℕ → List ℕ → ℕ → List BoundPart → Bool
bounds_common_sets first second n cut last (part ∷ other ∷ []) =
    shows_bound first part (minus (all_below n) cut)
    && (shows_bound second other cut && nat_le (bound_of first part + bound_of second other) last)
bounds_common_sets first second n cut last parts = false

-- the number of the first of the four parts that fails, and nothing where all hold: the numbers of the rung; that its set is independent;
-- that it is heaviest under both halves; and that no common independent set is larger than the last rung's
abbrev pub failing_part : Instance → Certificate → ℕ → WitnessParts → Option ℕ
failing_part (pair w first second) (intersect n rungs cut) k witness =
    let rung = rung_at rungs k in
    let demands = demands_of first second k rung in
    if not (is_priced w n rung) then Some 1 else
    (if not (shows_common_set first second witness rung.set) then Some 2 else
    (if not (are_met demands witness.bounds) then Some 3 else
    (if not (bounds_common_sets first second n cut (last_rung rungs) (drop (length demands) witness.bounds)) then Some 4 else
    None)))
failing_part instance answer k witness = Some 1

-- the witness shows rung k
abbrev pub IsShown : Instance → Certificate → ℕ → WitnessParts → Type 0
IsShown instance answer k witness = failing_part instance answer k witness ≡ None

-- ---- which witnesses are judged

-- a part for each of these matroids on n elements, in order
abbrev pub AreBoundsFor : ℕ → List Tree → List BoundPart → Type 0
AreBoundsFor n [] [] = Unit {0}
AreBoundsFor n (tree ∷ trees) (part ∷ parts) = IsBoundFor n tree part × AreBoundsFor n trees parts
AreBoundsFor n trees parts = ⊥

-- the matroids of the bounds of a rung: one for each demand, and then both for the cut
abbrev pub bounded_trees : Tree → Tree → ℕ → PricedRung → List Tree
bounded_trees first second k rung = map (λ demand. demand.tree) (demands_of first second k rung) ++ first ∷ second ∷ []

-- a witness for rung k of two matroids on n elements has its number, and parts of the kinds, the number and the lengths that are needed
pub record IsWitness (n : ℕ) (first second : Tree) (k : ℕ) (rung : PricedRung) (witness : WitnessParts) : Type 0 where
  pub same : witness.k ≡ k
  pub first_part : IsFreeFor n k first witness.first
  pub second_part : IsFreeFor n k second witness.second
  pub bound_parts : AreBoundsFor n (bounded_trees first second k rung) witness.bounds

-- so for a problem and an answer
abbrev pub IsWitnessFor : Instance → Certificate → ℕ → WitnessParts → Type 0
IsWitnessFor (pair w first second) (intersect n rungs cut) k witness = IsWitness (length w) first second k (rung_at rungs k) witness
IsWitnessFor instance answer k witness = ⊥

-- ---- what is shown

-- rung k is right, with its weight, and the cut shows that no common independent set is larger than the last rung's
pub record IsRightAt (w : List Weight) (p q : List ℕ → Bool) (n : ℕ) (rungs : List PricedRung) (cut : List ℕ) (k : ℕ) : Type 0 where
  pub counted : n ≡ length w
  pub priced : (rung_at rungs k).weight ≡ weight w (rung_at rungs k).set
  pub right : IsRung n p q w k (rung_at rungs k).set (rung_at rungs k).first (rung_at rungs k).second
  pub ends : IsCut n p q (last_rung rungs) cut

-- so for a problem and an answer
abbrev pub IsRightRungOf : Instance → Certificate → ℕ → Type 0
IsRightRungOf (pair w first second) (intersect n rungs cut) k = IsRightAt w (is_independent first) (is_independent second) n rungs cut k
IsRightRungOf instance answer k = ⊥

-- the weight of rung k is that of its set, its halves add up to the weights and under each its set is heaviest of its size in that matroid,
-- it is a heaviest common independent set of k elements, and no common independent set has more elements than the last rung's
pub record IsProved (w : List Weight) (p q : List ℕ → Bool) (rungs : List PricedRung) (k : ℕ) : Type 0 where
  pub priced : (rung_at rungs k).weight ≡ weight w (rung_at rungs k).set
  pub right : IsRung (length w) p q w k (rung_at rungs k).set (rung_at rungs k).first (rung_at rungs k).second
  pub heaviest : IsHeaviestCommon p q w k (rung_at rungs k).set
  pub none_larger : (X : List ℕ) → p X ≡ true → q X ≡ true → length X ≤ last_rung rungs

-- so for a problem and an answer
abbrev pub IsProvedRung : Instance → Certificate → ℕ → Type 0
IsProvedRung (pair w first second) (intersect n rungs cut) k = IsProved w (is_independent first) (is_independent second) rungs k
IsProvedRung instance answer k = ⊥
