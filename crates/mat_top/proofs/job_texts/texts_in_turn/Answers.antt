use Rattle.mat_top.proofs.JobTexts.{texts_of_rows}
use Rattle.mat_top.proofs.job_texts.texts_in_turn.Goals as goal

pub returns : goal.returns
returns g c = texts_of_rows c.args.jobs.now c.in_ok-texts.texts.items c.in_ok-texts.ensures.count c.in_ok-texts.ensures.rows
