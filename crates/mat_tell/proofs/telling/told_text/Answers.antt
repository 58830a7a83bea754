use Rattle.mat_problem.specs.Views.{instance_of}
use Rattle.mat_problem.proofs.SoundProblems.{IsSoundInstance-valid}
use Rattle.mat_text.proofs.Paragraphs.{all_shallow}
use Rattle.mat_tell.proofs.telling.told_text.Goals as goal

pub tell-requires-clause-sound : goal.tell-requires-clause-sound
tell-requires-clause-sound c = IsSoundInstance-valid (instance_of c.args.named.now.problem) c.requires.valid

pub returns : goal.returns
returns c = all_shallow c.tell.new.text
