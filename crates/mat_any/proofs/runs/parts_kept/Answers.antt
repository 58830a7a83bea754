use Rattle.mat_any.proofs.JoinedMatroids.{union_keeps}
use Rattle.mat_any.proofs.runs.parts_kept.Goals as goal

pub returns : goal.returns
returns c = λ matroids set are whole each. union_keeps matroids set c.args.parts c.args.kept are whole each
