-- A valid problem states a graph, a colouring or a table indeed: ends, colours and places are within their numbers, and there are few of them.
use Rattle.mat_check.proofs.Common.{ℕ, ◌<◌, ◌≤◌, List, length, arith, IsGraph, Weight, AreCells, IsColouring, ArePairs, IsValid, graph, rooted, coloured, table, IsGraph-pairs}
use Rattle.mat_sets.specs.Limits.{most_elements}

-- few pairs with both numbers below that of the vertices
graph_of_pairs : (vertices : ℕ) (edges : List (ℕ × ℕ)) → ArePairs vertices vertices edges → IsGraph vertices edges
graph_of_pairs vertices edges pairs =
    let few : length edges ≤ most_elements = pairs.0 in
    IsGraph-pairs vertices edges (omega arith) pairs.1

pub graph_is_graph : (vertices : ℕ) (edges : List (ℕ × ℕ)) → IsValid (graph vertices edges) → IsGraph vertices edges
graph_is_graph vertices edges valid = graph_of_pairs vertices edges valid.2

pub rooted_is_graph : (vertices root : ℕ) (arcs : List (ℕ × ℕ)) (costs : List Weight) → IsValid (rooted vertices root arcs costs)
    → IsGraph vertices arcs
rooted_is_graph vertices root arcs costs valid = graph_of_pairs vertices arcs valid.3

-- the root is a vertex
pub root_is_below : (vertices root : ℕ) (arcs : List (ℕ × ℕ)) (costs : List Weight) → IsValid (rooted vertices root arcs costs)
    → root < vertices
root_is_below vertices root arcs costs valid = valid.2

module _ (vertices colours : ℕ) (edges : List (ℕ × ℕ)) (colour_of : List ℕ) (w : List Weight)
    (valid : IsValid (coloured vertices colours edges colour_of w)) where
  pub coloured_is_graph : IsGraph vertices edges
  coloured_is_graph = graph_of_pairs vertices edges valid.3

  pub coloured_is_coloured : IsColouring (length edges) colours colour_of
  coloured_is_coloured = record {
    long = valid.4;
    below = λ e small. valid.5 e 0 (omega (arith, valid.4, small));
  }

pub table_has_cells : (rows columns : ℕ) (cells : List (ℕ × ℕ)) (w : List Weight) → IsValid (table rows columns cells w)
    → AreCells rows columns cells
table_has_cells rows columns cells w valid = record {
  row = λ e small. (valid.2.1 e (0, 0) small).0;
  column = λ e small. (valid.2.1 e (0, 0) small).1;
}
