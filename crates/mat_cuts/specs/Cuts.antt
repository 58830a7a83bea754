-- Vertex sets with weights that bound the cost of each spanning arborescence from below (Fulkerson 1974; Schrijver, chapter 52).
use Rattle.std.specs.Prelude.{◌≡◌, ℕ, ◌<◌, ◌≤◌, ◌*◌, Bool, if◌then◌else◌, List, [], ◌∷◌, length, ℤ, pos, ◌+ℤ◌, ◌≤ℤ◌, ◌<ℤ◌}
use Rattle.std.specs.List.{AllByRecursion}
use Rattle.mat_sets.specs.Graphs.{ends_of, enters, IsSpanningArborescence, IsRootFree}
use Rattle.mat_cuts.specs.Costs.{cost_at, cost_of}
use Rattle.mat_cuts.specs.declared.cut_weight.CutWeight.{CutWeight}

-- the weight where the test holds, and 0 where it does not
abbrev pub weight_where : Bool → ℤ → ℤ
weight_where b w = if b then w else pos 0

-- the weights of the listed sets that the arc enters, added
abbrev pub weight_on : (ℕ → ℕ × ℕ) → List CutWeight → ℕ → ℤ
weight_on ends [] a = pos 0
weight_on ends (c ∷ cuts) a = weight_where (enters ends c.set a) c.weight +ℤ weight_on ends cuts a

-- all weights, added
abbrev pub all_weight : List CutWeight → ℤ
all_weight [] = pos 0
all_weight (c ∷ cuts) = c.weight +ℤ all_weight cuts

-- a root-free vertex set with a weight above 0
pub record IsWeightedCut (vertices root : ℕ) (c : CutWeight) : Type 0 where
  pub root_free : IsRootFree vertices root c.set
  pub positive : pos 0 <ℤ c.weight

-- a spanning arborescence, and at most 2V weights of root-free sets: at each arc those of the sets that it enters add to at most its cost,
-- and all of them add to the cost of the arborescence
pub record AreRightCuts (vertices : ℕ) (arcs : List (ℕ × ℕ)) (costs : List ℤ) (root : ℕ)
    (tree : List ℕ) (cuts : List CutWeight) : Type 0 where
  pub spans : IsSpanningArborescence vertices (length arcs) (ends_of arcs) root tree
  pub few : length cuts ≤ 2 * vertices
  pub each : AllByRecursion (IsWeightedCut vertices root) cuts
  pub within : (a : ℕ) → a < length arcs → weight_on (ends_of arcs) cuts a ≤ℤ cost_at costs a
  pub total : all_weight cuts ≡ cost_of costs tree

-- no spanning arborescence costs less
abbrev pub IsCheapest : (vertices : ℕ) (arcs : List (ℕ × ℕ)) (costs : List ℤ) (root : ℕ) (tree : List ℕ) → Type 0
IsCheapest vertices arcs costs root tree =
    (other : List ℕ) → IsSpanningArborescence vertices (length arcs) (ends_of arcs) root other → cost_of costs tree ≤ℤ cost_of costs other
