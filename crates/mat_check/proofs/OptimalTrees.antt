-- No better answers than right trees, partitions, arborescences and vertex sets that are entered too seldom: a partition leaves room for few
-- trees, and each arborescence enters each vertex set without the root.
use Rattle.mat_check.proofs.Common.{ℕ, List, length, subst, ends_of, Weight, unentered_has_none, AreTrees, IsRightPartition, AreDisjointArborescences, IsSeldomEntered, graph, rooted, disjoint, disjoint_none, trees, trees_none, unreached}
use Rattle.mat_packing.proofs.Partitions.{few_trees}
use Rattle.mat_branch.proofs.Packing.{seldom_entered_has_none}
use Rattle.mat_check.proofs.AnswerForms.{RightIsOptimal}
use Rattle.mat_check.proofs.ValidGraphs.{graph_is_graph}

pub trees_found : (vertices : ℕ) (edges : List (ℕ × ℕ)) (n : ℕ) (sets : List (List ℕ))
    → RightIsOptimal (graph vertices edges) (trees n sets)
trees_found vertices edges n sets valid sound right = subst (λ m. AreTrees vertices m (ends_of edges) sets) right.0 right.1

pub partition : (vertices : ℕ) (edges : List (ℕ × ℕ)) (n k v : ℕ) (classes : List (List ℕ))
    → RightIsOptimal (graph vertices edges) (trees_none n k v classes)
partition vertices edges n k v classes valid sound right =
    let g = graph_is_graph vertices edges valid in
    few_trees (ends_of edges) vertices (length edges) (λ e small. (g.first e small, g.second e small)) k classes
    (subst (λ m. IsRightPartition vertices m (ends_of edges) k classes) right.0 right.2)

pub unreached_set : (vertices root : ℕ) (arcs : List (ℕ × ℕ)) (costs : List Weight) (n v : ℕ) (set : List ℕ)
    → RightIsOptimal (rooted vertices root arcs costs) (unreached n v set)
unreached_set vertices root arcs costs n v set valid sound right =
    λ tree spans. unentered_has_none vertices arcs root set tree right.2 spans

pub arborescences : (vertices root : ℕ) (arcs : List (ℕ × ℕ)) (costs : List Weight) (n : ℕ) (sets : List (List ℕ))
    → RightIsOptimal (rooted vertices root arcs costs) (disjoint n sets)
arborescences vertices root arcs costs n sets valid sound right =
    subst (λ m. AreDisjointArborescences vertices m (ends_of arcs) root (length sets) sets) right.0 right.1

pub seldom_entered : (vertices root : ℕ) (arcs : List (ℕ × ℕ)) (costs : List Weight) (n k v : ℕ) (set : List ℕ)
    → RightIsOptimal (rooted vertices root arcs costs) (disjoint_none n k v set)
seldom_entered vertices root arcs costs n k v set valid sound right =
    λ found are. seldom_entered_has_none vertices (length arcs) root (ends_of arcs) k found set are
    (subst (λ m. IsSeldomEntered vertices m (ends_of arcs) root k set) right.0 right.2)
