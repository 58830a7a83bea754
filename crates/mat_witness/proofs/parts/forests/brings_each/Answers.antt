use Rattle.mat_witness.proofs.Common.{◌<◌, false, length, get_or, refl, sym, ◌∙◌, arith, get_or_default, All-get_or, ends_of}
use Rattle.mat_witness.proofs.BroughtVertices.{judged_next}
use Rattle.mat_witness.proofs.parts.forests.brings_each.Goals as goal

pub loop-pair-preserved : goal.loop-pair-preserved
loop-pair-preserved c =
    let edges = c.args.edges.now in
    let i = c.loop-pair.pair-index in
    let pair = get_or c.args.pairs.now i (0, 0) in
    let below = All-get_or (λ p. (p.0 < length edges) × (p.1 < c.args.vertices)) c.args.pairs.now i (0, 0) c.loop-pair-test.true c.requires.pairs in
    let touched = c.loop-pair.touched.items in
    let small : pair.1 < length touched = omega (arith, below.1, c.loop-pair.invariant.long) in
    judged_next (ends_of edges) c.args.pairs.now i c.args.vertices pair.0 pair.1 touched c.loop-pair.invariant c.loop-pair-test.true refl below.1
    (sym c.is_single_end.ensures ∙ c.if-not-is_single_end.false)
    (sym (c.index.ensures ∙ get_or_default touched pair.1 c.index.result.now false small) ∙ c.if-index.false)
    (c.requires.graph.first pair.0 below.0) (c.requires.graph.second pair.0 below.0)
