-- Each line adds a job behind those so far; a fault of a line, or one line too many, is the fault of the whole list.
use Rattle.mat_command.proofs.Common.{◌-◌, map, length-append, arith, map_push, err_from_is_err_and, lines_left, most_jobs, jobs_at, job_of}
use Rattle.mat_command.proofs.JobReading.{job_read, jobs_read, reading_fails, job_refused}
use Rattle.mat_command.proofs.job_list.job_lines.Goals as goal

pub returns-in_err-job-clause-jobs : goal.returns-in_err-job-clause-jobs
returns-in_err-job-clause-jobs c =
    let p = err_from_is_err_and c.from_residual.result c.from_residual.ensures.1 in
    let failed = reading_fails c.in_err-job.field-0.0 (map job_of c.loop.jobs.items) (most_jobs - c.loop.counter) (lines_left c.loop.left)
    (jobs_at most_jobs (lines_left c.args.lines)) c.in_err-job.ensures c.loop.invariant.whole in
    rw (p.1, p.2) failed

pub returns-in_default-clause-jobs : goal.returns-in_default-clause-jobs
returns-in_default-clause-jobs c =
    jobs_read (map job_of c.loop.jobs.items) (most_jobs - c.loop.counter) (lines_left c.loop.left)
    (jobs_at most_jobs (lines_left c.args.lines)) (rw c.in_default.is at c.in_ok-job.ensures) c.loop.invariant.whole

pub loop-preserved : goal.loop-preserved
loop-preserved c =
    let read = job_read (map job_of c.loop.jobs.items) most_jobs c.loop.counter (lines_left c.loop.left) (job_of c.in-Some.job)
    (lines_left c.in-Some.behind) (jobs_at most_jobs (lines_left c.args.lines)) c.loop-test.true
    (rw c.in-Some.is at c.in_ok-job.ensures) c.loop.invariant.whole in
    record { whole = rw (c.in-Ok.ensures.items, map_push) read; counted = rw (c.in-Ok.ensures.items, length-append) (omega arith) }

pub returns-in_err-next_job-clause-jobs : goal.returns-in_err-next_job-clause-jobs
returns-in_err-next_job-clause-jobs c =
    let p = err_from_is_err_and c.from_residual-in_err-next_job.result c.from_residual-in_err-next_job.ensures.1 in
    let failed = reading_fails c.in_err-next_job.field-0.0 (map job_of c.loop.jobs.items) (most_jobs - c.loop.counter) (lines_left c.loop.left)
    (jobs_at most_jobs (lines_left c.args.lines)) c.in_err-next_job.ensures c.loop.invariant.whole in
    rw (p.1, p.2) failed

pub returns-in-Some-2-clause-jobs : goal.returns-in-Some-2-clause-jobs
returns-in-Some-2-clause-jobs c =
    job_refused (map job_of c.loop.jobs.items) most_jobs c.loop.counter (lines_left c.loop.left)
    (job_of c.in-Some-2.field-0.0, lines_left c.in-Some-2.field-0.1) (jobs_at most_jobs (lines_left c.args.lines)) c.loop-test.false
    (rw c.in-Some-2.is at c.in_ok-next_job.ensures) c.loop.invariant.whole

pub returns-in-None-clause-jobs : goal.returns-in-None-clause-jobs
returns-in-None-clause-jobs c =
    jobs_read (map job_of c.loop.jobs.items) (most_jobs - c.loop.counter) (lines_left c.loop.left)
    (jobs_at most_jobs (lines_left c.args.lines)) (rw c.in-None.is at c.in_ok-next_job.ensures) c.loop.invariant.whole
