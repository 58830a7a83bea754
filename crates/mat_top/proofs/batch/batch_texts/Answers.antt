-- A job that cannot be read refuses the call; where all are read, the texts are those of right answers, in the order of the list.
use Rattle.mat_top.proofs.Common.{map, sym, subst, err_from_is_err_and, AreLoaded, AreUnloaded, HaveTexts, job_of}
use Rattle.mat_top.proofs.Batches.{refused_jobs, may_be_written}
use Rattle.mat_top.proofs.LoadedJobs.{are_loaded_there, are_unloaded_there, loaded_count}
use Rattle.mat_top.proofs.batch.batch_texts.Goals as goal

pub returns-in_err-loaded-clause-refusal : goal.returns-in_err-loaded-clause-refusal
returns-in_err-loaded-clause-refusal g c =
    let p = err_from_is_err_and c.from_residual-in_err-loaded.result c.from_residual-in_err-loaded.ensures.1 in
    let listed = c.in_ok-jobs.ensures in
    let why = subst (λ jobs. AreUnloaded (g.F.Shelf.held c.listed_jobs.new.files) (g.F.Shelf.faults c.listed_jobs.new.files)
    (g.F.Shelf.faults c.loaded_jobs.new.files) (map job_of jobs) c.in_err-loaded.field-0.0) c.deref.ensures.value c.in_err-loaded.ensures.refusal in
    rw (p.1, p.2)
    (refused_jobs (g.F.Shelf.held c.args.files.now) (g.F.Shelf.faults c.args.files.now) (g.F.Shelf.faults c.loaded_jobs.new.files) c.args.list.now
    (map job_of c.in_ok-jobs.jobs.items) c.in_err-loaded.field-0.0 listed.listed
    (are_unloaded_there (g.F.Shelf.held c.listed_jobs.new.files) (g.F.Shelf.held c.args.files.now) (g.F.Shelf.faults c.args.files.now)
    (g.F.Shelf.faults c.listed_jobs.new.files) (g.F.Shelf.faults c.loaded_jobs.new.files) (map job_of c.in_ok-jobs.jobs.items)
    c.in_err-loaded.field-0.0 (λ name. sym (listed.held name)) listed.grows why))

pub job_texts-texts-requires-clause-few : goal.job_texts-texts-requires-clause-few
job_texts-texts-requires-clause-few g c =
    let jobs_here = c.deref.ensures.value in
    let loaded_here = c.deref-2.ensures.value in
    let few = c.in_ok-jobs.ensures.few in
    let count = loaded_count (g.F.Shelf.held c.listed_jobs.new.files) c.deref.result.now c.in_ok-loaded.loaded.items c.in_ok-loaded.ensures.loaded in
    rw loaded_here (rw count (rw jobs_here few))

pub returns-clause-text : goal.returns-clause-text
returns-clause-text g c =
    let listed = c.in_ok-jobs.ensures in
    let are = subst (λ jobs. AreLoaded (g.F.Shelf.held c.listed_jobs.new.files) (map job_of jobs) c.in_ok-loaded.loaded.items) c.deref.ensures.value
    c.in_ok-loaded.ensures.loaded in
    let have = subst (λ loaded. HaveTexts loaded c.in_ok-texts.field-0.items) c.deref-2.ensures.value c.in_ok-texts.ensures in
    may_be_written (g.F.Shelf.held c.args.files.now) c.args.list.now (map job_of c.in_ok-jobs.jobs.items) c.in_ok-loaded.loaded.items
    c.in_ok-texts.field-0.items listed.listed
    (are_loaded_there (g.F.Shelf.held c.listed_jobs.new.files) (g.F.Shelf.held c.args.files.now) (map job_of c.in_ok-jobs.jobs.items)
    c.in_ok-loaded.loaded.items (λ name. sym (listed.held name)) are)
    have
