-- What a list of jobs comes to: the refusal of the first job without a problem is that of the call, and the texts of all may be written.
use Rattle.mat_top.proofs.Common.{◌≡◌, ℕ, ◌≤◌, List, [], ◌∷◌, ◌++◌, Option, Some, refl, inl, inr, ap, subst, Vec, ◌≢◌, length, map, All, IfSome, IsSome, All-nil, All-cons, instance_of, certificate_limit, LoadedJob, Status, batch, solve, Job, IsListed, IsJobOutcome, IsJobsOutcome, TellsJobs}
use Rattle.mat_top.proofs.Common.{JobsReach, IsTrueOfJobs, Tells, IsOutcome, IsRequestOutput, AreJobTexts, IsLoaded, AreLoaded, IsUnloaded, AreUnloaded, HaveTexts, refusal_of_unloaded, HasSolutionText, MayBeWritten, IsRefusal, Unloaded, told, told_both, if_told}
use Rattle.mat_shelf.specs.Faults.{Rose}
use Rattle.mat_desc.specs.declared.refusal.DescKind.{DescKind}
use Rattle.mat_judge.specs.declared.status.Status.TheVariants as statuses
use Rattle.mat_judge.specs.Texts.{joined, all_texts}
use Rattle.mat_judge.specs.declared.described.Undescribed.TheVariants as undescribed
use Rattle.mat_judge.specs.declared.reading.Unread.TheVariants as unread
use Rattle.mat_judge.specs.declared.refusal.Denial.TheVariants as denials
use Rattle.mat_top.specs.declared.loading.Unloaded.TheVariants as unloaded

-- ---- the first job without a problem

module _ (held : List ℕ → Option (List ℕ)) (before now : List ℕ → ℕ) where
  unloaded_reached : (jobs : List Job) → AreUnloaded held before now jobs (unloaded.Undescribed (undescribed.Unread unread.Fault))
      → (name : List ℕ) × JobsReach held jobs name × Rose (before name) (now name)
  unloaded_reached [] why = absurd cc
  unloaded_reached (job ∷ jobs) (inl why) = (job.file, inl refl, why)
  unloaded_reached (job ∷ jobs) (inr more) = let reached = unloaded_reached jobs more.1 in (reached.0, inr (more.0, reached.1), reached.2)

  unloaded_true : (jobs : List Job) (kind : DescKind) (number : ℕ)
      → AreUnloaded held before now jobs (unloaded.Undescribed (undescribed.Fault kind number))
      → IsTrueOfJobs held jobs (denials.BadDescription kind number)
  unloaded_true [] kind number why = absurd cc
  unloaded_true (job ∷ jobs) kind number (inl why) = inl why
  unloaded_true (job ∷ jobs) kind number (inr more) = inr (more.0, unloaded_true jobs kind number more.1)

  unloaded_outcome : (jobs : List Job) (why : Unloaded) (status : Status) → status ≢ statuses.Done
      → (why ≡ unloaded.Undescribed (undescribed.Unread unread.Memory) → ⊥)
      → ((job : Job) → IsUnloaded held job before now why → IsSome (held job.file) → IsJobOutcome held job status)
      → AreUnloaded held before now jobs why → TellsJobs held jobs → IsJobsOutcome held jobs status
  unloaded_outcome [] why status differs never each memory tells = absurd (never memory)
  unloaded_outcome (job ∷ jobs) why status differs never each (inl is) tells = inl (differs, each job is tells.0)
  unloaded_outcome (job ∷ jobs) why status differs never each (inr more) tells =
      let done : IsJobOutcome held job statuses.Done = told (held job.file) _ _ tells.0 more.0 (λ bytes is. is) in
      inr (done, unloaded_outcome jobs why status differs never each more.1 (tells.1 done))

  -- a refusal of the list's jobs, as the outcome of the call
  refused_outcome : (list : List ℕ) (jobs : List Job) (status : Status) → IfSome (held list) (λ bytes. IsListed bytes jobs)
      → (TellsJobs held jobs → IsJobsOutcome held jobs status) → Tells held (Some (batch list)) → IsOutcome held (Some (batch list)) status
  refused_outcome list jobs status listed outcome tells =
      told_both (held list) _ _ _ tells listed (λ bytes tells_jobs is. inr (jobs, is, outcome (tells_jobs jobs is)))

  pub refused_jobs : (list : List ℕ) (jobs : List Job) (why : Unloaded) → IfSome (held list) (λ bytes. IsListed bytes jobs)
      → AreUnloaded held before now jobs why → IsRefusal held (batch list) before now (refusal_of_unloaded why)
  refused_jobs list jobs (unloaded.Undescribed (undescribed.Unread unread.Fault)) listed is =
      let reached = unloaded_reached jobs is in
      (reached.0, inr (if_told (held list) _ _ (λ bytes listing. (jobs, listing, reached.1)) listed), reached.2)
  refused_jobs list jobs (unloaded.Undescribed (undescribed.Unread unread.Memory)) listed is = tt
  refused_jobs list jobs (unloaded.Undescribed (undescribed.Unread unread.TooLong)) listed is =
      refused_outcome list jobs statuses.TooLong listed (unloaded_outcome jobs _ statuses.TooLong (λ same. absurd cc) (λ same. absurd cc)
      (λ job long some. told (held job.file) _ _ some long (λ bytes over. inl over)) is)
  refused_jobs list jobs (unloaded.Undescribed (undescribed.Fault kind number)) listed is = (
    refused_outcome list jobs statuses.BadDescription listed
        (unloaded_outcome jobs _ statuses.BadDescription (λ same. absurd cc) (λ same. absurd cc)
        (λ job faulty some. told (held job.file) _ _ some faulty (λ bytes fault. inl ((kind, number), fault))) is),
    if_told (held list) _ _ (λ bytes listing. (jobs, listing, unloaded_true jobs kind number is)) listed,
  )
  refused_jobs list jobs unloaded.WrongShape listed is = (
    refused_outcome list jobs statuses.WrongShape listed
        (unloaded_outcome jobs _ statuses.WrongShape (λ same. absurd cc) (λ same. absurd cc)
        (λ job other some. told (held job.file) _ _ some other (λ bytes form. inr form)) is),
    tt,
  )

-- ---- the texts

module _ (held : List ℕ → Option (List ℕ)) where
  loaded_outcome : (jobs : List Job) (loaded : List LoadedJob) → AreLoaded held jobs loaded → TellsJobs held jobs
      → IsJobsOutcome held jobs statuses.Done
  loaded_outcome [] [] are tells = refl
  loaded_outcome (job ∷ jobs) (one ∷ others) are tells =
      let done : IsJobOutcome held job statuses.Done = told (held job.file) _ _ tells.0 are.0.problem.described
      (λ bytes described. inr (instance_of one.problem, described, are.0.problem.form)) in
      inr (done, loaded_outcome jobs others are.1 (tells.1 done))
  loaded_outcome jobs loaded are tells = absurd are

  job_text : (job : Job) (loaded : LoadedJob) (text : List ℕ) → IsLoaded held job loaded
      → HasSolutionText loaded.query (instance_of loaded.problem) text → IsRequestOutput held job.file (solve job.query) text
  job_text job loaded text is right =
      let same : HasSolutionText job.query (instance_of loaded.problem) text
      = subst (λ query. HasSolutionText query (instance_of loaded.problem) text) is.query right in
      record {
        short = same.short;
        answer = if_told (held job.file) _ _
            (λ bytes described. record { instance = instance_of loaded.problem; described = described; answer = (same.form, same.solution) })
            is.problem.described;
      }

  job_texts : (jobs : List Job) (loaded : List LoadedJob) (texts : List (Vec ℕ)) → AreLoaded held jobs loaded → HaveTexts loaded texts
      → AreJobTexts held jobs (map (λ text. text.items) texts)
  job_texts [] [] [] are have = tt
  job_texts (job ∷ jobs) (one ∷ others) (text ∷ texts) are have =
      (job_text job one text.items are.0 have.0, job_texts jobs others texts are.1 have.1)
  job_texts [] [] texts are have = absurd have
  job_texts (job ∷ jobs) (one ∷ others) texts are have = absurd have
  job_texts jobs loaded texts are have = absurd are

  short_texts : (loaded : List LoadedJob) (texts : List (Vec ℕ)) → HaveTexts loaded texts
      → All (λ piece. length piece ≤ certificate_limit) (map (λ text. text.items) texts)
  short_texts [] [] have = All-nil (λ piece. length piece ≤ certificate_limit)
  short_texts (one ∷ others) (text ∷ texts) have =
      All-cons (λ piece. length piece ≤ certificate_limit) text.items (map (λ t. t.items) texts) have.0.short (short_texts others texts have.1)
  short_texts loaded texts have = absurd have

  all_joined : (texts : List (Vec ℕ)) → all_texts texts ≡ joined (map (λ text. text.items) texts)
  all_joined [] = refl
  all_joined (text ∷ texts) = ap (λ rest. text.items ++ rest) (all_joined texts)

  pub may_be_written : (list : List ℕ) (jobs : List Job) (loaded : List LoadedJob) (texts : List (Vec ℕ))
      → IfSome (held list) (λ bytes. IsListed bytes jobs) → AreLoaded held jobs loaded → HaveTexts loaded texts
      → MayBeWritten held (batch list) (all_texts texts)
  may_be_written list jobs loaded texts listed are have = record {
    output = record {
      texts = map (λ text. text.items) texts;
      whole = all_joined texts;
      short = short_texts loaded texts have;
      answers = if_told (held list) _ _ (λ bytes is. (jobs, is, job_texts jobs loaded texts are have)) listed;
    };
    outcome = λ tells. told_both (held list) _ _ _ tells listed
        (λ bytes tells_jobs is. inr (jobs, is, loaded_outcome jobs loaded are (tells_jobs jobs is)));
  }
