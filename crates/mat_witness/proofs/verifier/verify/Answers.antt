use Rattle.mat_witness.proofs.Common.{tree_of, pair, IsSoundInstance-valid}
use Rattle.mat_witness.proofs.verifier.verify.Goals as goal

pub failing_part-requires-clause-sound : goal.failing_part-requires-clause-sound
failing_part-requires-clause-sound c =
    let here = c.in-Pair-Intersect in
    let valid = rw here.is-0 at c.requires.valid in
    rw c.as_slice.ensures (IsSoundInstance-valid (pair here.weights (tree_of here.first) (tree_of here.second)) valid)
