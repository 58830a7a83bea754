use Rattle.mat_top.proofs.Common.{◌∙◌, map, arith, err_from_is_err_and, job_of}
use Rattle.mat_top.proofs.LoadedJobs.{unloaded_memory, loading_more, loading_last}
use Rattle.mat_top.proofs.loading.loaded_jobs.Goals as goal

pub returns-in_err-loaded-clause-refusal : goal.returns-in_err-loaded-clause-refusal
returns-in_err-loaded-clause-refusal g c =
    let p = err_from_is_err_and c.from_residual.result c.from_residual.ensures.1 in
    rw (p.1, p.2) (unloaded_memory (g.F.Shelf.held c.args.files.now) _ _ (map job_of c.args.jobs.now))

pub loop-job-preserved : goal.loop-job-preserved
loop-job-preserved g c =
    let more = c.in_ok-load_job.ensures in
    let before = c.loop-job.invariant in
    record {
      held = λ name. more.held name ∙ before.held name;
      grows = λ name. omega (arith, more.grows name, before.grows name);
      loading = rw more.added.1
          (loading_more (g.F.Shelf.held c.args.files.now) (g.F.Shelf.held c.loop-job.files) c.args.jobs.now c.loop-job.job-index c.job-item.result
          c.loop-job.loaded.items more.added.0 c.loop-job-test.true c.job-item.is before.held before.loading more.added.2 more.added.3);
    }

pub returns-clause-loaded : goal.returns-clause-loaded
returns-clause-loaded g c =
    let past = c.loop-job-test.false in
    loading_last (g.F.Shelf.held c.args.files.now) c.args.jobs.now c.loop-job.job-index c.loop-job.loaded.items (omega (arith, past))
    c.loop-job.invariant.loading
