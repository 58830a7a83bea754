use Rattle.mat_check.proofs.Common.{[], ◌∷◌, length, sym, ◌∙◌, ends_of, tree_clause}
use Rattle.mat_check.proofs.FailingClauses.{first_of_holding}
use Rattle.mat_check.proofs.NumberedFailures.{passed_next}
use Rattle.mat_check.proofs.graphs.trees.tree_failure.Goals as goal

pub loop-i-preserved : goal.loop-i-preserved
loop-i-preserved c =
    let vertices = c.args.graph.now.vertices in
    let count = length c.args.graph.now.edges in
    let ends = ends_of c.args.graph.now.edges in
    let i = c.loop-i.i in
    let tree = c.index-trees-i.result in
    passed_next (λ i tree. tree_clause vertices count ends i tree ∷ []) c.args.trees.now i tree
    c.loop-i-test.true c.index-trees-i.is c.loop-i.invariant
    (first_of_holding (tree_clause vertices count ends i tree) [] (sym c.in_ok-is_tree.ensures ∙ c.if-not-branch.false))
