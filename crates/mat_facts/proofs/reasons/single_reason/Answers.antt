use Rattle.mat_facts.proofs.Common.{subst, IsRightPacking, is_independent}
use Rattle.mat_any.specs.Views.{tree_of}
use Rattle.mat_facts.proofs.RightSetReasons.{some_base}
use Rattle.mat_facts.proofs.reasons.single_reason.Goals as goal

pub pack_reason-requires-clause-some : goal.pack_reason-requires-clause-some
pack_reason-requires-clause-some c κs =
    let tree = tree_of c.args.m.now in
    let right = rw c.in-Pack.is at c.requires.right in
    some_base c.args.weights.now tree c.in-Pack.count c.requires.valid c.in-Pack.bases c.in-Pack.cut
    (subst (λ m. IsRightPacking m (is_independent tree) c.in-Pack.bases c.in-Pack.cut) right.0 right.1)
