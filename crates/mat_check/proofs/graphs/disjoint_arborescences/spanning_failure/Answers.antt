use Rattle.mat_check.proofs.Common.{[], ◌∷◌, sym, ◌∙◌, ends_of, arborescence_clause}
use Rattle.mat_check.proofs.FailingClauses.{first_of_holding}
use Rattle.mat_check.proofs.NumberedFailures.{passed_next}
use Rattle.mat_check.proofs.graphs.disjoint_arborescences.spanning_failure.Goals as goal

pub loop-i-preserved : goal.loop-i-preserved
loop-i-preserved c =
    let vertices = c.args.graph.now.vertices in
    let ends = ends_of c.args.graph.now.arcs in
    let root = c.args.root in
    let i = c.loop-i.i in
    let tree = c.index-trees-i.result in
    passed_next (λ i tree. arborescence_clause vertices ends root i tree ∷ []) c.args.trees.now i tree
    c.loop-i-test.true c.index-trees-i.is c.loop-i.invariant
    (first_of_holding (arborescence_clause vertices ends root i tree) [] (sym c.in_ok-spans.ensures ∙ c.if-not-branch.false))
