use Rattle.mat_check.proofs.Common.{[], ◌∷◌, length, ◌∙◌, IfOk-weaker, ends_of, numbered_clauses, tree_clause}
use Rattle.mat_check.proofs.TreeFailures.{each_after, of_graph, overlap_first}
use Rattle.mat_check.proofs.graphs.trees.trees_failure.Goals as goal

pub returns-in-Some : goal.returns-in-Some
returns-in-Some c =
    let edges = c.args.edges.now in
    let each = numbered_clauses (λ i tree. tree_clause c.args.vertices (length edges) (ends_of edges) i tree ∷ []) 0 c.args.trees.now in
    overlap_first (length edges) c.args.trees.now each c.len.result c.overlap_failure.result c.len.ensures c.overlap_failure.ensures
    c.in-Some.failure c.in-Some.is

pub returns : goal.returns
returns c =
    let edges = c.args.edges.now in
    let each = numbered_clauses (λ i tree. tree_clause c.args.vertices (length edges) (ends_of edges) i tree ∷ []) 0 c.args.trees.now in
    let same = of_graph c.args.vertices edges c.in_ok-copy.field-0 c.in_ok-graph.graph c.args.trees.now
    c.in_ok-graph.ensures.value c.in_ok-copy.ensures
    ∙ each_after (length edges) c.args.trees.now each c.len.result c.overlap_failure.result
    c.len.ensures c.overlap_failure.ensures c.in_default.is in
    IfOk-weaker c.tree_failure.result _ _ (λ found h. h ∙ same) c.tree_failure.ensures
