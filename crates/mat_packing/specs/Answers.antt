-- Right answers to the questions for most disjoint bases, for fewest sets that cover the elements, and for k disjoint spanning trees.
use Rattle.std.specs.Prelude.{◌≡◌, ◌≢◌, ℕ, ◌<◌, Bool, true, false, List, [], ◌∷◌, length, MatchOption}
use Rattle.mat_sets.specs.Graphs.{ends_of}
use Rattle.mat_sets.specs.Sets.{all_below}
use Rattle.mat_laws.specs.Matroids.{IsLoop}
use Rattle.mat_laws.specs.Ranks.{rank}
use Rattle.mat_packing.specs.Packings.{IsRightCovering, IsRightPacking}
use Rattle.mat_packing.specs.Trees.{AreTrees, IsRightPartition}
use Rattle.mat_packing.specs.declared.packing.Packing.{Packing}
use Rattle.mat_packing.specs.declared.packing.Packing.TheVariants.{Any, Most}
use Rattle.mat_packing.specs.declared.covering.Covering.{Covering}
use Rattle.mat_packing.specs.declared.covering.Covering.TheVariants.{Never, Least}
use Rattle.mat_packing.specs.declared.trees.Trees.{Trees}
use Rattle.mat_packing.specs.declared.trees.Trees.TheVariants.{Trees as AllTrees, Partition}

-- the rank is 0, or it is not and the bases are most
abbrev pub IsRightPackingAnswer : ℕ → (List ℕ → Bool) → Packing → Type 0
IsRightPackingAnswer n independent Any = rank independent (all_below n) ≡ 0
IsRightPackingAnswer n independent (Most bases cut) = (0 < rank independent (all_below n)) × IsRightPacking n independent bases cut

-- no element is dependent alone
abbrev pub HasNoLoop : ℕ → (List ℕ → Bool) → Type 0
HasNoLoop n independent = (x : ℕ) → x < n → independent (x ∷ []) ≡ true

-- an element that is dependent alone; or there is none, and the sets are fewest, with a cut exactly where there is an element
abbrev pub IsRightCoveringAnswer : ℕ → (List ℕ → Bool) → Covering → Type 0
IsRightCoveringAnswer n independent (Never loop_at) = IsLoop n independent loop_at
IsRightCoveringAnswer n independent (Least sets cut) =
    HasNoLoop n independent × IsRightCovering n independent sets cut × MatchOption cut (n ≡ 0) (λ A. 0 < n)

-- k disjoint spanning trees, or a partition of the vertices that does not allow k of them
abbrev pub IsRightTreesAnswer : ℕ → List (ℕ × ℕ) → ℕ → Trees → Type 0
IsRightTreesAnswer vertices edges k (AllTrees trees) = AreTrees vertices (length edges) (ends_of edges) trees × (length trees ≡ k)
IsRightTreesAnswer vertices edges k (Partition classes) = IsRightPartition vertices (length edges) (ends_of edges) k classes

-- there are no k disjoint spanning trees
abbrev pub HasNoTrees : ℕ → List (ℕ × ℕ) → ℕ → Type 0
HasNoTrees vertices edges k = (trees : List (List ℕ)) → AreTrees vertices (length edges) (ends_of edges) trees → length trees ≢ k

-- whether the answer is that there are none
abbrev pub is_partition : Trees → Bool
is_partition (AllTrees trees) = false
is_partition (Partition classes) = true
