use Rattle.mat_facts.proofs.Common.{sym}
use Rattle.mat_problem.proofs.ListedMatroids.{all_sound, tests_of_trees}
use Rattle.mat_facts.proofs.reasons.list_reason.Goals as goal

pub union_reason-requires-clause-sound : goal.union_reason-requires-clause-sound
union_reason-requires-clause-sound c κs = all_sound c.args.weights.now c.args.matroids.now c.requires.sound

pub returns-in-UnionOf : goal.returns-in-UnionOf
returns-in-UnionOf c =
    rw c.in-UnionOf.is (rw (sym (tests_of_trees c.args.matroids.now)) (rw (c.as_slice.ensures.items, c.deref.ensures.value) at c.union_reason.ensures))
