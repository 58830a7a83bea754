-- Spanning trees and partitions of the vertices as answers: trees are sets of edges, and classes are sets of vertices, of which there are no
-- more than vertices, since each has one of its own.
use Rattle.mat_solve.proofs.Common.{◌≡◌, ℕ, zero, suc, ◌-◌, ◌*◌, ◌<◌, ◌≤◌, true, List, [], length, refl, inl, inr, ◌∙◌, arith, All, cases_lt, lt-ltb, get_or_default, most_trees, AllRising, multiplicity, ends_of, all_below, is_member, IsSet, IsRising-all_below, IsSet-from, is_member-all_below}
use Rattle.mat_solve.proofs.Common.{length-all_below, length-meeting, multiplicity-nowhere, member_from_some, graphic_laws, part_at, IsValid, graph, trees, trees_none, IsSolution}
use Rattle.mat_sets.proofs.Steps.{AllRising-at}
use Rattle.mat_packing.specs.Trees.{AreTrees, IsRightPartition}

-- there are classes where edges between them are needed
some_class : (k classes crossing : ℕ) → crossing < k * (classes - 1) → 1 ≤ classes
some_class k zero crossing few = absurd (omega arith)
some_class k (suc classes) crossing few = omega arith

module _ (vertices : ℕ) (edges : List (ℕ × ℕ)) (valid : IsValid (graph vertices edges)) where
  -- disjoint spanning trees
  pub trees_solution : (k : ℕ) (sets : List (List ℕ)) → 1 ≤ k → k ≤ most_trees → length sets ≡ k
      → AreTrees vertices (length edges) (ends_of edges) sets → IsSolution (graph vertices edges) (trees (length edges) sets)
  trees_solution k sets some few many are = record {
    ranged = record {
      few = valid.2.0;
      sets_in_range = record {
        enough = omega (arith, many, some);
        no_more = omega (arith, many, few);
        each = λ i d lt. rw (get_or_default sets i d [] lt) ((graphic_laws (length edges) (ends_of edges)).sets _ (are.each i lt).forest);
      };
    };
    right = (refl, are);
    bounded = tt;
  }

  module _ (k : ℕ) (classes : List (List ℕ)) (rise : AllRising classes)
      (found : IsRightPartition vertices (length edges) (ends_of edges) k classes) where
    at_most_once : (x : ℕ) → multiplicity x classes ≤ 1
    at_most_once x = elim (cases_lt x vertices) [
      | inl lt ↦ (let once = found.once x lt in omega arith)
      | inr ge ↦ (let none = multiplicity-nowhere x classes (λ q small m. let below = found.below q x small m in omega arith) in omega arith)
    ]

    -- a vertex of each class
    own_vertex : (q : ℕ) → q < length classes
        → (x : ℕ) × (is_member x (all_below vertices) ≡ true) × (is_member x (part_at classes q) ≡ true)
    own_vertex q lt =
        let some = member_from_some (part_at classes q) (found.filled q lt) in
        (some.0, is_member-all_below some.0 vertices ∙ lt-ltb some.0 vertices (found.below q some.0 lt some.1), some.1)

    few_classes : length classes ≤ vertices
    few_classes = omega (
      arith,
      length-meeting (all_below vertices) classes (IsRising-all_below vertices) (record { once = at_most_once }) own_vertex,
      length-all_below vertices,
    )

    class_sets : All (IsSet vertices) classes
    class_sets q d lt = rw (get_or_default classes q d [] lt)
        (IsSet-from vertices (part_at classes q) (AllRising-at classes q rise lt) (λ x m. found.below q x lt m))

    -- a partition of the vertices with few edges between its classes
    pub partition_solution : 1 ≤ k → k ≤ most_trees → IsSolution (graph vertices edges) (trees_none (length edges) k vertices classes)
    partition_solution some few = record {
      ranged = (
        record { few = valid.2.0; some_trees = some; few_trees = few; vertices_in_range = record { some = valid.0; few = valid.1 } },
        record { enough = some_class k (length classes) _ found.few; no_more = few_classes; each = class_sets },
      );
      right = (refl, refl, found);
      bounded = tt;
    }
