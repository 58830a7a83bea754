use Rattle.mat_command.proofs.Common.{map, string_bytes, arith, length-map, parts_left}
use Rattle.mat_command.proofs.JobReading.{first_kept}
use Rattle.mat_command.proofs.job_list.first_words.Goals as goal

pub returns : goal.returns
returns c = first_kept (map string_bytes c.loop.texts.items) (parts_left c.loop.left) (parts_left c.args.words.left) c.loop.invariant.whole
    (rw length-map (omega arith))
