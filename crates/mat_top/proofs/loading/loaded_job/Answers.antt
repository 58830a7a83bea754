use Rattle.mat_top.proofs.Common.{instance_of, job_of}
use Rattle.mat_top.proofs.LoadedJobs.{other_form}
use Rattle.mat_top.proofs.loading.loaded_job.Goals as goal

pub returns-then-not-has_form-clause-refusal : goal.returns-then-not-has_form-clause-refusal
returns-then-not-has_form-clause-refusal g c =
    other_form (g.F.Shelf.held c.args.files.now) (job_of c.args.job.now) c.deref.result.now (instance_of c.in_ok-problem.problem) c.has_form.result
    c.deref.ensures c.in_ok-problem.ensures.described c.has_form.ensures c.if-not-has_form.true
