-- The first clause of disjoint spanning trees or arborescences that fails: an overlap, or else a set that is none of these.
use Rattle.mat_check.proofs.Common.{◌≡◌, ℕ, List, [], ◌∷◌, ◌++◌, length, Option, Some, None, sym, ap, ◌∙◌, ends_of, DirectedGraph, Graphic, first_failure, numbered_clauses, Clause, Failure, overlap_clauses, arborescence_clause, tree_clause}
use Rattle.mat_check.proofs.FailingClauses.{first_in_back, first_in_front}

module _ (n : ℕ) (sets : List (List ℕ)) (each : List Clause) (told : ℕ) (found : Option Failure) (few : told ≡ n)
    (overlap : found ≡ first_failure (overlap_clauses told sets)) where
  told_of_all : found ≡ first_failure (overlap_clauses n sets)
  told_of_all = overlap ∙ ap (λ m. first_failure (overlap_clauses m sets)) few

  -- an overlap that is found is told
  pub overlap_first : (failure : Failure) → found ≡ Some failure → Some failure ≡ first_failure (overlap_clauses n sets ++ each)
  overlap_first failure is = sym (first_in_front (overlap_clauses n sets) each failure (sym told_of_all ∙ is))

  -- where there is none, the sets one by one tell it
  pub each_after : found ≡ None → first_failure each ≡ first_failure (overlap_clauses n sets ++ each)
  each_after none = sym (first_in_back (overlap_clauses n sets) each (sym told_of_all ∙ none))

-- ---- the graph is made of copied edges

-- the first set that is no spanning tree
abbrev pub first_no_tree : ℕ → List (ℕ × ℕ) → List (List ℕ) → Option Failure
first_no_tree vertices edges trees =
    first_failure (numbered_clauses (λ i tree. tree_clause vertices (length edges) (ends_of edges) i tree ∷ []) 0 trees)

pub of_graph : (vertices : ℕ) (edges copied : List (ℕ × ℕ)) (graph : Graphic) (trees : List (List ℕ))
    → graph ≡ record { vertices = vertices; edges = copied } → copied ≡ edges
    → first_no_tree graph.vertices graph.edges trees ≡ first_no_tree vertices edges trees
of_graph vertices edges copied graph trees value same =
    ap (λ (g : Graphic). first_no_tree g.vertices g.edges trees) value ∙ ap (λ l. first_no_tree vertices l trees) same

-- the first set that is no spanning arborescence from the root
abbrev pub first_no_arborescence : ℕ → List (ℕ × ℕ) → ℕ → List (List ℕ) → Option Failure
first_no_arborescence vertices arcs root trees =
    first_failure (numbered_clauses (λ i tree. arborescence_clause vertices (ends_of arcs) root i tree ∷ []) 0 trees)

pub of_digraph : (vertices : ℕ) (arcs copied : List (ℕ × ℕ)) (root : ℕ) (graph : DirectedGraph) (trees : List (List ℕ))
    → graph ≡ record { vertices = vertices; arcs = copied } → copied ≡ arcs
    → first_no_arborescence graph.vertices graph.arcs root trees ≡ first_no_arborescence vertices arcs root trees
of_digraph vertices arcs copied root graph trees value same =
    ap (λ (g : DirectedGraph). first_no_arborescence g.vertices g.arcs root trees) value
    ∙ ap (λ l. first_no_arborescence vertices l root trees) same
