use Rattle.mat_problem.proofs.ListedMatroids.{all_sound}
use Rattle.mat_tell.proofs.matroid_answers.tell_list.Goals as goal

pub tell_union-requires-clause-sound : goal.tell_union-requires-clause-sound
tell_union-requires-clause-sound c = all_sound c.args.rules.now.weights.now c.args.rules.now.matroids.now c.requires.sound
