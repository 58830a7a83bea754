-- Jobs whose problems are read, and their texts.
use Rattle.std.specs.Global.{Vec}
use Rattle.std.specs.Prelude.{◌≡◌, ℕ, ◌⊎◌, true, List, [], ◌∷◌, ◌++◌, slice_get, Option, IfSome, Some, All}
use Rattle.mat_problem.specs.Validity.{IsValid}
use Rattle.mat_problem.specs.Instances.{Instance}
use Rattle.mat_problem.specs.Views.{instance_of}
use Rattle.mat_top.specs.declared.loaded_job.LoadedJob.{LoadedJob}
use Rattle.mat_command.specs.JobLists.{Job, IsMislisted}
use Rattle.mat_desc.specs.Limits.{description_limit}
use Rattle.mat_command.specs.declared.refusal.ListRefusal.{ListRefusal}
use Rattle.mat_command.specs.declared.refusal.ListRefusal.TheVariants as list_refusals
use Rattle.mat_judge.specs.Described.{IsDescribed, IsUndescribed}
use Rattle.mat_judge.specs.Statuses.{refusal_of_undescribed}
use Rattle.mat_judge.specs.WholeFiles.{IsUnread}
use Rattle.mat_judge.specs.declared.described.Undescribed.TheVariants as undescribed
use Rattle.mat_judge.specs.declared.reading.Unread.TheVariants as unread
use Rattle.mat_judge.specs.declared.refusal.Denial.TheVariants as denials
use Rattle.mat_judge.specs.declared.refusal.Refusal.{Refusal}
use Rattle.mat_judge.specs.declared.refusal.Refusal.TheVariants as refusals
use Rattle.mat_top.specs.declared.batch.Unlisted.{Unlisted}
use Rattle.mat_top.specs.declared.batch.Unlisted.TheVariants as unlisted
use Rattle.mat_top.specs.declared.loading.Unloaded.{Unloaded}
use Rattle.mat_top.specs.declared.loading.Unloaded.TheVariants as unloaded
use Rattle.mat_top.specs.Outcomes.{MayBeSolved}
use Rattle.mat_solve.specs.Queries.{has_form, IsQueryInRange}
use Rattle.mat_top.specs.Refusals.{IsJobProblem, HasSolutionText}

-- what a reader of lists that read no jobs says of the list
abbrev pub unlisted_by : ListRefusal → Unlisted
unlisted_by (list_refusals.Line line) = unlisted.Line line
unlisted_by list_refusals.Memory = unlisted.Unread unread.Memory

-- the refusal of a call whose list gives no jobs
abbrev pub refusal_of_unlisted : Unlisted → Refusal
refusal_of_unlisted (unlisted.Unread why) = refusals.Unread why
refusal_of_unlisted (unlisted.Line line) = refusals.Denied (denials.BadList line)

-- why a file gives no jobs: with what it holds, and the count of its faults before and after
abbrev pub IsUnlisted : Option (List ℕ) → ℕ → ℕ → Unlisted → Type 0
IsUnlisted held before now (unlisted.Unread why) = IsUnread held description_limit before now why
IsUnlisted held before now (unlisted.Line line) = IfSome held (λ bytes. IsMislisted bytes line)

-- the query is in range, and the problem is valid and of the query's form
pub record IsAnswerable (loaded : LoadedJob) : Type 0 where
  pub valid : IsValid (instance_of loaded.problem)
  pub range : IsQueryInRange loaded.query
  pub form : has_form loaded.query (instance_of loaded.problem) ≡ true

-- the query and the problem are those of the job
pub record IsLoaded (held : List ℕ → Option (List ℕ)) (job : Job) (loaded : LoadedJob) : Type 0 where
  pub query : loaded.query ≡ job.query
  pub problem : IsJobProblem held job (instance_of loaded.problem)

-- those of each job, in their order
abbrev pub AreLoaded : (List ℕ → Option (List ℕ)) → List Job → List LoadedJob → Type 0
AreLoaded held [] [] = Unit {0}
AreLoaded held (job ∷ jobs) (loaded ∷ others) = IsLoaded held job loaded × AreLoaded held jobs others
AreLoaded held [] (loaded ∷ others) = ⊥
AreLoaded held (job ∷ jobs) [] = ⊥

-- the file of a job describes a problem of another form, where it is told
abbrev pub IsOfOtherForm : (List ℕ → Option (List ℕ)) → Job → Type 0
IsOfOtherForm held job = IfSome (held job.file)
    (λ bytes. (instance : Instance) × IsDescribed bytes instance × (has_form job.query instance ≡ true → ⊥))

-- the refusal of a call one of whose jobs has no problem
abbrev pub refusal_of_unloaded : Unloaded → Refusal
refusal_of_unloaded (unloaded.Undescribed why) = refusal_of_undescribed why
refusal_of_unloaded unloaded.WrongShape = refusals.Denied denials.WrongShape

-- why the problem of a job is not to be had: with the counts of the shelf's faults before and after
abbrev pub IsUnloaded : (List ℕ → Option (List ℕ)) → Job → (List ℕ → ℕ) → (List ℕ → ℕ) → Unloaded → Type 0
IsUnloaded held job before now (unloaded.Undescribed why) = IsUndescribed (held job.file) (before job.file) (now job.file) why
IsUnloaded held job before now unloaded.WrongShape = IsOfOtherForm held job

-- why the problems of jobs are not to be had: the first job that is refused, or want of memory
abbrev pub AreUnloaded : (List ℕ → Option (List ℕ)) → (List ℕ → ℕ) → (List ℕ → ℕ) → List Job → Unloaded → Type 0
AreUnloaded held before now [] why = why ≡ unloaded.Undescribed (undescribed.Unread unread.Memory)
AreUnloaded held before now (job ∷ jobs) why =
    IsUnloaded held job before now why ⊎ (MayBeSolved held job × AreUnloaded held before now jobs why)

-- the jobs before those that are left are loaded: where the jobs that are left are loaded behind them, all jobs are, and why those that are left
-- can't be loaded is why all can't
pub record IsLoading (held : List ℕ → Option (List ℕ)) (jobs left : List Job) (loaded : List LoadedJob) : Type 0 where
  pub answerable : All IsAnswerable loaded
  pub all_loaded : (others : List LoadedJob) → AreLoaded held left others → AreLoaded held jobs (loaded ++ others)
  pub unloaded : (before now : List ℕ → ℕ) (why : Unloaded) → AreUnloaded held before now left why
      → AreUnloaded held before now jobs why

-- the text at a number is that of a right answer to the query there
abbrev pub IsTextAt : List LoadedJob → ℕ → Vec ℕ → Type 0
IsTextAt jobs i text = (loaded : LoadedJob) → slice_get jobs i ≡ Some loaded → HasSolutionText loaded.query (instance_of loaded.problem) text.items

-- the texts are those of right answers, one for each query, in their order
abbrev pub HaveTexts : List LoadedJob → List (Vec ℕ) → Type 0
HaveTexts [] [] = Unit {0}
HaveTexts (loaded ∷ others) (text ∷ texts) =
    HasSolutionText loaded.query (instance_of loaded.problem) text.items × HaveTexts others texts
HaveTexts [] (text ∷ texts) = ⊥
HaveTexts (loaded ∷ others) [] = ⊥
