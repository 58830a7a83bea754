use Rattle.mat_witness.proofs.Common.{◌++◌, ap, ◌∙◌}
use Rattle.mat_witness.proofs.SourcePaths.{concat-more}
use Rattle.mat_witness.proofs.parts.gammoids.paths.all_vertices.Goals as goal

pub loop-path-preserved : goal.loop-path-preserved
loop-path-preserved c =
    c.in_ok-extend_from_slice.ensures.items ∙ ap (λ vs. c.loop-path.vertices.items ++ vs) c.as_slice.ensures
    ∙ ap (λ vs. vs ++ c.path-item.result) c.loop-path.invariant
    ∙ concat-more c.args.lists.now c.loop-path.path-index c.path-item.result c.loop-path-test.true c.path-item.is
