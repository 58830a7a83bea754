use Rattle.mat_check.proofs.Common.{[], ◌∷◌, length, ◌∙◌, IfOk-weaker, ends_of, numbered_clauses, arborescence_clause}
use Rattle.mat_check.proofs.TreeFailures.{each_after, of_digraph, overlap_first}
use Rattle.mat_check.proofs.graphs.disjoint_arborescences.disjoint_failure.Goals as goal

pub returns-in-Some : goal.returns-in-Some
returns-in-Some c =
    let arcs = c.args.arcs.now in
    let each = numbered_clauses (λ i tree. arborescence_clause c.args.vertices (ends_of arcs) c.args.root i tree ∷ []) 0 c.args.trees.now in
    overlap_first (length arcs) c.args.trees.now each c.len.result c.overlap_failure.result c.len.ensures c.overlap_failure.ensures
    c.in-Some.failure c.in-Some.is

pub returns : goal.returns
returns c =
    let arcs = c.args.arcs.now in
    let each = numbered_clauses (λ i tree. arborescence_clause c.args.vertices (ends_of arcs) c.args.root i tree ∷ []) 0 c.args.trees.now in
    let same = of_digraph c.args.vertices arcs c.in_ok-copy.field-0 c.args.root c.in_ok-graph.graph c.args.trees.now
    c.in_ok-graph.ensures c.in_ok-copy.ensures
    ∙ each_after (length arcs) c.args.trees.now each c.len.result c.overlap_failure.result
    c.len.ensures c.overlap_failure.ensures c.in_default.is in
    IfOk-weaker c.spanning_failure.result _ _ (λ found h. h ∙ same) c.spanning_failure.ensures
