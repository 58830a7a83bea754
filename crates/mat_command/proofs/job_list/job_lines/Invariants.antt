use Rattle.mat_command.proofs.Common.{◌≡◌, ◌-◌, map, length, lines_left, most_jobs, jobs_at, job_of}
use Rattle.mat_command.proofs.JobReading.{with_jobs}
use Rattle.mat_command.proofs.job_list.job_lines.Given as goal

-- the jobs so far, in front of those that are still read, are the jobs that are read in all
abbrev pub invariant-loop : goal.invariant-loop
invariant-loop l = record {
  whole : with_jobs (map job_of l.jobs.items) (jobs_at (most_jobs - l.counter) (lines_left l.left))
      ≡ jobs_at most_jobs (lines_left l.fn.lines);
  counted : length l.jobs.items ≡ l.counter;
}
