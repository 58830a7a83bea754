use Rattle.mat_top.proofs.Common.{◌≡◌, ◌≤◌, ℕ, List, map, drop, IsLoading, job_of}
use Rattle.mat_top.proofs.loading.loaded_jobs.Given as goal

abbrev pub invariant-loop-job : goal.invariant-loop-job
invariant-loop-job g l = record {
  held : (name : List ℕ) → g.F.Shelf.held l.files name ≡ g.F.Shelf.held l.fn.files name;
  grows : (name : List ℕ) → g.F.Shelf.faults l.fn.files name ≤ g.F.Shelf.faults l.files name;
  loading : IsLoading (g.F.Shelf.held l.fn.files) (map job_of l.jobs) (map job_of (drop l.job-index l.jobs)) l.loaded.items;
}
