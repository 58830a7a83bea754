use Rattle.mat_check.proofs.Common.{◌∙◌, ℕ, List, ap, IfOk-weaker, ends_of, is_spanning_arborescence, DirectedGraph}
use Rattle.mat_check.proofs.graphs.arborescence.is_arborescence.Goals as goal

pub returns : goal.returns
returns c =
    let vertices = ap (λ (d : DirectedGraph). d.vertices) c.in_ok-graph.ensures in
    let arcs = ap (λ (d : DirectedGraph). d.arcs) c.in_ok-graph.ensures ∙ c.in_ok-copy.ensures in
    IfOk-weaker c.spans.result _ _ (λ found h. h
    ∙ ap (λ (v : ℕ). is_spanning_arborescence v (ends_of c.in_ok-graph.graph.arcs) c.args.root c.args.tree.now) vertices
    ∙ ap (λ (es : List (ℕ × ℕ)). is_spanning_arborescence c.args.vertices (ends_of es) c.args.root c.args.tree.now) arcs) c.spans.ensures
