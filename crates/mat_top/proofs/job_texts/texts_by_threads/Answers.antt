use Rattle.mat_top.proofs.JobTexts.{texts_of_rows}
use Rattle.mat_top.proofs.job_texts.texts_by_threads.Goals as goal

pub returns : goal.returns
returns g c = texts_of_rows c.args.jobs.now c.in_ok-drawn.drawn.rows.items c.in_ok-drawn.ensures.count c.in_ok-drawn.ensures.rows
