-- What contracts see of command lines and of jobs.
use Rattle.std.specs.Prelude.{string_bytes}
use Rattle.mat_command.specs.declared.command.CommandLine as declared
use Rattle.mat_command.specs.CommandLines.{CommandLine}
use Rattle.mat_command.specs.Commands.{task_of}
use Rattle.mat_command.specs.JobLists.{Job}
use Rattle.mat_command.specs.declared.job.Job as declared_jobs

-- a command line, with its workers
abbrev pub line_of : declared.CommandLine → CommandLine
line_of line = record { workers = line.workers; task = task_of line.command }

-- a job, as read from a list
abbrev pub job_of : declared_jobs.Job → Job
job_of job = record { query = job.query; file = string_bytes job.file }
