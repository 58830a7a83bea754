-- Clauses of spanning trees, of partitions, of spanning arborescences and of vertex sets, in the order in which they are tried (Schrijver,
-- chapters 51 to 53).
use Rattle.std.specs.Prelude.{ℕ, suc, ◌-◌, ◌*◌, not, nat_lt, List, [], ◌∷◌, ◌++◌, length, map, Option, Some, None}
use Rattle.mat_sets.specs.Graphs.{entering}
use Rattle.mat_sets.specs.Sets.{all_below, is_member}
use Rattle.mat_sets.specs.Weights.{◌⊕◌, is_same, negated, weight, weight_at}
use Rattle.mat_sets.specs.declared.weight.Weight.{Weight}
use Rattle.mat_graphic.specs.Forests.{is_graphic, number_of_components}
use Rattle.mat_packing.specs.Trees.{crossing, is_spanning_tree}
use Rattle.mat_arbor.specs.Heads.{is_entering_once}
use Rattle.mat_branch.specs.Spanning.{is_spanning_arborescence}
use Rattle.mat_fronts.specs.Rainbow.{edges_without}
use Rattle.mat_check.specs.Clauses.{Clause, failure_at, heaviest_clause, numbered_clauses}
use Rattle.mat_check.specs.SetClauses.{missed_clauses, overlap_clauses}
use Rattle.mat_check.specs.declared.reason.Reason.TheVariants as reasons

-- ---- spanning trees

-- the set with number i is a spanning tree
abbrev pub tree_clause : ℕ → ℕ → (ℕ → ℕ × ℕ) → ℕ → List ℕ → Clause
tree_clause vertices count ends i tree = record { holds = is_spanning_tree vertices count ends tree; failure = failure_at reasons.Tree i 0 }

-- disjoint spanning trees of a graph with this many edges
abbrev pub trees_clauses : ℕ → ℕ → (ℕ → ℕ × ℕ) → List (List ℕ) → List Clause
trees_clauses vertices count ends trees =
    overlap_clauses count trees ++ numbered_clauses (λ i tree. tree_clause vertices count ends i tree ∷ []) 0 trees

-- the set with number i is not empty
abbrev pub some_clause : ℕ → List ℕ → Clause
some_clause i set = record { holds = nat_lt 0 (length set); failure = failure_at reasons.Empty i 0 }

-- fewer edges have their ends in different classes than k disjoint spanning trees need
abbrev pub crossing_clause : ℕ → (ℕ → ℕ × ℕ) → ℕ → List (List ℕ) → Clause
crossing_clause count ends k classes = record {
  holds = nat_lt (length (crossing count ends classes)) (k * (length classes - 1));
  failure = failure_at reasons.Crossing 0 0;
}

-- classes of vertices between which there are too few edges
abbrev pub partition_clauses : ℕ → ℕ → (ℕ → ℕ × ℕ) → ℕ → List (List ℕ) → List Clause
partition_clauses vertices count ends k classes =
    overlap_clauses vertices classes ++ numbered_clauses (λ i class. some_clause i class ∷ []) 0 classes
    ++ missed_clauses vertices classes ++ crossing_clause count ends k classes ∷ []

-- ---- arborescences

-- the set with number i is a spanning arborescence from the root
abbrev pub arborescence_clause : ℕ → (ℕ → ℕ × ℕ) → ℕ → ℕ → List ℕ → Clause
arborescence_clause vertices ends root i tree = record {
  holds = is_spanning_arborescence vertices ends root tree;
  failure = failure_at reasons.Tree i 0;
}

-- disjoint spanning arborescences of a graph with this many arcs
abbrev pub disjoint_clauses : ℕ → ℕ → (ℕ → ℕ × ℕ) → ℕ → List (List ℕ) → List Clause
disjoint_clauses vertices count ends root trees =
    overlap_clauses count trees ++ numbered_clauses (λ i tree. arborescence_clause vertices ends root i tree ∷ []) 0 trees

-- the vertex set is not empty and does not hold the root, and fewer than k arcs enter it
abbrev pub seldom_entered_clauses : ℕ → (ℕ → ℕ × ℕ) → ℕ → ℕ → List ℕ → List Clause
seldom_entered_clauses count ends root k set =
    some_clause 0 set ∷ record { holds = not (is_member root set); failure = failure_at reasons.Root 0 0 }
    ∷ record { holds = nat_lt (length (entering ends (all_below count) set)) k; failure = failure_at reasons.Crossing 0 0 } ∷ []

-- the two parts add up to the negated cost of arc e
abbrev pub cost_clause : List Weight → List Weight → List Weight → ℕ → Clause
cost_clause costs first second e = record {
  holds = is_same (weight_at first e ⊕ weight_at second e) (negated (weight_at costs e));
  failure = failure_at reasons.Sum 0 e;
}

-- a spanning arborescence with its cost, and a split of the negated costs under which it is heaviest of its size in both matroids
abbrev pub arborescence_clauses : ℕ → ℕ → (ℕ → ℕ × ℕ) → List Weight → ℕ → Weight → List ℕ → List Weight → List Weight → List Clause
arborescence_clauses vertices count ends costs root cost tree first second =
    record { holds = is_same cost (weight costs tree); failure = failure_at reasons.Weight 0 0 }
    ∷ arborescence_clause vertices ends root 0 tree ∷ map (cost_clause costs first second) (all_below count)
    ++ heaviest_clause count (is_graphic count ends) first 0 0 tree
    ∷ heaviest_clause count (is_entering_once count vertices ends root) second 1 0 tree ∷ []

-- ---- colours

-- without the edges of these colours there are more components than one more than there are such colours
abbrev pub colours_clauses : ℕ → ℕ → (ℕ → ℕ × ℕ) → (ℕ → ℕ) → Option (List ℕ) → List Clause
colours_clauses vertices count ends colour None = []
colours_clauses vertices count ends colour (Some C) = record {
  holds = nat_lt (suc (length C)) (number_of_components vertices ends (edges_without count colour C));
  failure = failure_at reasons.Colours 0 0;
} ∷ []
