use Rattle.mat_command.proofs.Common.{map, err_from_is_err_and, lines_left, job_of}
use Rattle.mat_command.proofs.JobReading.{head_fails, list_jobs, list_fails}
use Rattle.mat_command.proofs.job_list.read_jobs.Goals as goal

pub returns-in_err-lines-clause-refusal : goal.returns-in_err-lines-clause-refusal
returns-in_err-lines-clause-refusal c =
    let p = err_from_is_err_and c.from_residual.result c.from_residual.ensures.1 in
    rw (p.1, p.2) (head_fails c.in_err-lines.field-0.0 c.args.bytes.now c.requires.within c.in_err-lines.ensures)

pub returns-clause-jobs : goal.returns-clause-jobs
returns-clause-jobs c =
    list_jobs (λ v. map job_of v.items) c.job_lines.result c.args.bytes.now (lines_left c.in_ok-lines.lines) c.in_ok-lines.ensures
    c.job_lines.ensures.jobs

pub returns-clause-refusal : goal.returns-clause-refusal
returns-clause-refusal c =
    list_fails (λ v. map job_of v.items) c.job_lines.result c.args.bytes.now (lines_left c.in_ok-lines.lines) c.requires.within
    c.in_ok-lines.ensures c.job_lines.ensures.jobs
