use Rattle.mat_flow.proofs.Common.{◌∙◌, ap, subst, sym, IsGraph, reversed_arcs}
use Rattle.mat_flow.proofs.Rerouting.{IsGraph-reversed}
use Rattle.mat_flow.proofs.digraph.Digraph.turned.Goals as goal

pub new-requires-2 : goal.new-requires-2
new-requires-2 c =
    let graph = c.args.self.now in
    let arcs = c.new.ensures ∙ c.in_ok-arcs.ensures ∙ ap reversed_arcs (c.as_slice.ensures ∙ c.arcs.ensures.arcs) in
    subst (λ n. IsGraph n c.new.result) (sym c.vertices.ensures.count)
    (subst (IsGraph graph.vertices) (sym arcs) (IsGraph-reversed graph.vertices graph.arcs c.vertices.ensures.graph))
