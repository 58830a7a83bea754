-- Right answers to the question for a cheapest spanning arborescence.
use Rattle.std.specs.Prelude.{ℕ, ◌≤◌, ◌*◌, List, length, ℤ}
use Rattle.std.specs.List.{AllByRecursion}
use Rattle.mat_sets.specs.Limits.{largest_number}
use Rattle.mat_sets.specs.Graphs.{ends_of, IsSpanningArborescence, IsUnentered}
use Rattle.mat_sets.specs.Sets.{AllBelow}
use Rattle.mat_sets.specs.Sums.{IsWithin}
use Rattle.mat_cuts.specs.Cuts.{AreRightCuts}
use Rattle.mat_cuts.specs.declared.cut_weight.CutWeight.{CutWeight}
use Rattle.mat_cuts.specs.declared.cut_weight.Cuts.{Cuts}
use Rattle.mat_cuts.specs.declared.cut_weight.Cuts.TheVariants.{Tree, Unreached}

-- right cuts with a tree, or a root-free vertex set that no arc enters
abbrev pub AreRight : (vertices : ℕ) (arcs : List (ℕ × ℕ)) (costs : List ℤ) (root : ℕ) → Cuts → Type 0
AreRight vertices arcs costs root (Tree tree cuts) = AreRightCuts vertices arcs costs root tree cuts.items
AreRight vertices arcs costs root (Unreached set) = IsUnentered vertices arcs root set

-- Unreached comes exactly where there is no spanning arborescence
abbrev pub TellsReached : (vertices : ℕ) (arcs : List (ℕ × ℕ)) (root : ℕ) → Cuts → Type 0
TellsReached vertices arcs root (Tree tree cuts) = (some : List ℕ) × IsSpanningArborescence vertices (length arcs) (ends_of arcs) root some
TellsReached vertices arcs root (Unreached set) = (tree : List ℕ) → IsSpanningArborescence vertices (length arcs) (ends_of arcs) root tree → ⊥

-- a vertex set with a weight, both in range
pub record IsCutInRange (vertices : ℕ) (c : CutWeight) : Type 0 where
  pub below : AllBelow vertices c.set
  pub small : IsWithin largest_number c.weight

-- arcs, sets and weights in range, and not too many sets
abbrev pub AreInRange : (vertices count : ℕ) → Cuts → Type 0
AreInRange vertices count (Tree tree cuts) =
    AllBelow count tree × (length cuts.items ≤ 2 * vertices) × AllByRecursion (IsCutInRange vertices) cuts.items
AreInRange vertices count (Unreached set) = AllBelow vertices set
