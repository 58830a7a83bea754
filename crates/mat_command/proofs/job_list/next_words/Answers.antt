use Rattle.mat_command.proofs.Common.{lines_left, words_left}
use Rattle.mat_command.proofs.JobReading.{line_words}
use Rattle.mat_command.proofs.job_list.next_words.Goals as goal

pub first_words-requires : goal.first_words-requires
first_words-requires c = line_words (lines_left c.args.lines) (words_left c.in-Ok.words) (lines_left c.in-Ok.behind) c.in-Ok.ensures.value
