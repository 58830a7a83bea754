use Rattle.mat_witness.proofs.Common.{◌≡◌, ◌≤◌, length, ap, ◌∙◌, arith, length-distinct_below, AreDistinct-rising}
use Rattle.mat_witness.proofs.parts.gammoids.closing.closing_bound.Goals as goal

-- a set of vertices has at most as many members as there are vertices, whose number is one of 32 bits
pub overflow_cast-result : goal.overflow_cast-result
overflow_cast-result c =
    let closing = c.args.closing.now in
    let vertices = c.args.matroid.now.vertices in
    let few : length closing ≤ vertices = length-distinct_below vertices closing (AreDistinct-rising closing c.requires.closing.rising)
    c.requires.closing.below in
    let size : c.vertices.result ≡ vertices = c.vertices.ensures.count ∙ ap (λ g. g.vertices) c.graph.ensures in
    omega (arith, c.len.ensures.count, size, c.vertices.type_inv)
