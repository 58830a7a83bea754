use Rattle.mat_any.proofs.JoinedMatroids.{tree_of_union}
use Rattle.mat_desc.proofs.read.matroids.joined.Goals as goal

pub returns : goal.returns
returns c = tree_of_union c.args.parts
