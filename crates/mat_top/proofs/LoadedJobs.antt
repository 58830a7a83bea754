-- Jobs whose problems are read one after the other: a job that has its problem may be solved, and a refusal of the first job without one is
-- a refusal of them all.
use Rattle.mat_top.proofs.Common.{◌≡◌, ℕ, ◌+◌, ◌<◌, ◌≤◌, Bool, true, false, List, [], ◌∷◌, ◌++◌, Option, refl, inl, inr, sym, ap, subst, ◌∙◌, arith, map, length, drop, get_or, IfSome, append_assoc, append-nil, All-push, Instance, instance_of, LoadedJob, Job, solve, IsFaulty, IsDescribed}
use Rattle.mat_top.proofs.Common.{IsUndescribed, Unloaded, IsBytesOutcome, MayBeSolved, IsLoaded, AreLoaded, IsAnswerable, IsOfOtherForm, IsUnloaded, AreUnloaded, IsLoading, IsJobProblem, job_of, if_told, unread_before}
use Rattle.std.proofs.lemmas.List.{drop_more, drop_all}
use Rattle.mat_command.specs.declared.job.Job as declared
use Rattle.mat_judge.specs.declared.status.Status.TheVariants as statuses
use Rattle.mat_judge.specs.WholeFiles.{IsUnread}
use Rattle.mat_judge.specs.declared.described.Undescribed.{Undescribed}
use Rattle.mat_judge.specs.declared.described.Undescribed.TheVariants as undescribed
use Rattle.mat_judge.specs.declared.reading.Unread.TheVariants as unread
use Rattle.mat_top.specs.declared.loading.Unloaded.TheVariants as unloaded
use Rattle.mat_desc.specs.Limits.{description_limit}
use Rattle.mat_solve.specs.Queries.{has_form}

pub may_be_solved : (held : List ℕ → Option (List ℕ)) (job : Job) (instance : Instance) → IsJobProblem held job instance
    → MayBeSolved held job
may_be_solved held job instance is =
    if_told (held job.file) _ _ (λ bytes described. inr (instance, described, is.form)) is.described

-- a problem whose form was compared is of another one
pub other_form : (held : List ℕ → Option (List ℕ)) (job : Job) (name : List ℕ) (instance : Instance) (same : Bool) → name ≡ job.file
    → IfSome (held name) (λ bytes. IsDescribed bytes instance) → same ≡ has_form job.query instance → same ≡ false
    → IsOfOtherForm held job
other_form held job name instance same here described compared differs =
    if_told (held job.file) _ _ (λ bytes is. (instance, is, λ form. absurd cc))
    (subst (λ file. IfSome (held file) (λ bytes. IsDescribed bytes instance)) here described)

-- ---- the same on a shelf that holds the same

loaded_there : (held there : List ℕ → Option (List ℕ)) (job : Job) (loaded : LoadedJob) → there job.file ≡ held job.file
    → IsLoaded held job loaded → IsLoaded there job loaded
loaded_there held there job loaded same is = record {
  query = is.query;
  problem = record {
    described = subst (λ o. IfSome o (λ bytes. IsDescribed bytes (instance_of loaded.problem))) (sym same) is.problem.described;
    form = is.problem.form;
  };
}

undescribed_there : (o there : Option (List ℕ)) (first before now : ℕ) (why : Undescribed) → there ≡ o → first ≤ before
    → IsUndescribed o before now why → IsUndescribed there first now why
undescribed_there o there first before now (undescribed.Unread why) same earlier is =
    subst (λ p. IsUnread p description_limit first now why) (sym same) (unread_before o description_limit first before now why earlier is)
undescribed_there o there first before now (undescribed.Fault kind number) same earlier faulty =
    subst (λ p. IfSome p (λ bytes. IsFaulty bytes (kind, number))) (sym same) faulty

unloaded_there : (held there : List ℕ → Option (List ℕ)) (job : Job) (first before now : List ℕ → ℕ) (why : Unloaded)
    → there job.file ≡ held job.file → first job.file ≤ before job.file → IsUnloaded held job before now why
    → IsUnloaded there job first now why
unloaded_there held there job first before now (unloaded.Undescribed why) same earlier is =
    undescribed_there (held job.file) (there job.file) (first job.file) (before job.file) (now job.file) why same earlier is
unloaded_there held there job first before now unloaded.WrongShape same earlier other =
    subst (λ o. IfSome o (λ bytes. (instance : Instance) × IsDescribed bytes instance × (has_form job.query instance ≡ true → ⊥)))
    (sym same) other

pub are_loaded_there : (held there : List ℕ → Option (List ℕ)) (jobs : List Job) (loaded : List LoadedJob)
    → ((name : List ℕ) → there name ≡ held name) → AreLoaded held jobs loaded → AreLoaded there jobs loaded
are_loaded_there held there [] [] same are = tt
are_loaded_there held there (job ∷ jobs) (one ∷ others) same are =
    (loaded_there held there job one (same job.file) are.0, are_loaded_there held there jobs others same are.1)
are_loaded_there held there jobs loaded same are = absurd are

pub are_unloaded_there : (held there : List ℕ → Option (List ℕ)) (first before now : List ℕ → ℕ) (jobs : List Job) (why : Unloaded)
    → ((name : List ℕ) → there name ≡ held name) → ((name : List ℕ) → first name ≤ before name)
    → AreUnloaded held before now jobs why → AreUnloaded there first now jobs why
are_unloaded_there held there first before now [] why same earlier memory = memory
are_unloaded_there held there first before now (job ∷ jobs) why same earlier (inl is) =
    inl (unloaded_there held there job first before now why (same job.file) (earlier job.file) is)
are_unloaded_there held there first before now (job ∷ jobs) why same earlier (inr more) = inr (
  subst (λ o. IfSome o (λ bytes. IsBytesOutcome held (solve job.query) bytes statuses.Done)) (sym (same job.file)) more.0,
  are_unloaded_there held there first before now jobs why same earlier more.1,
)

-- ---- jobs in turn

pub unloaded_memory : (held : List ℕ → Option (List ℕ)) (before now : List ℕ → ℕ) (jobs : List Job)
    → AreUnloaded held before now jobs (unloaded.Undescribed (undescribed.Unread unread.Memory))
unloaded_memory held before now [] = refl
unloaded_memory held before now (job ∷ jobs) = inl tt

left_more : (jobs : List declared.Job) (i : ℕ) (job : declared.Job) → i < length jobs → job ≡ get_or jobs i job
    → map job_of (drop i jobs) ≡ job_of job ∷ map job_of (drop (i + 1) jobs)
left_more jobs i job inside at =
    ap (map job_of) (drop_more jobs i job inside) ∙ ap (λ next. job_of next ∷ map job_of (drop (i + 1) jobs)) (sym at)

-- one job more
pub loading_more : (held there : List ℕ → Option (List ℕ)) (jobs : List declared.Job) (i : ℕ) (job : declared.Job)
    (loaded : List LoadedJob) (one : LoadedJob)
    → i < length jobs → job ≡ get_or jobs i job → ((name : List ℕ) → there name ≡ held name)
    → IsLoading held (map job_of jobs) (map job_of (drop i jobs)) loaded → IsLoaded there (job_of job) one → IsAnswerable one
    → IsLoading held (map job_of jobs) (map job_of (drop (i + 1) jobs)) (loaded ++ one ∷ [])
loading_more held there jobs i job loaded one inside at same so is able =
    let next = left_more jobs i job inside at in
    let here : IsLoaded held (job_of job) one = loaded_there there held (job_of job) one (sym (same (job_of job).file)) is in
    record {
      answerable = All-push IsAnswerable loaded one so.answerable able;
      all_loaded = λ others are. subst (AreLoaded held (map job_of jobs)) (sym (append_assoc loaded (one ∷ []) others))
          (so.all_loaded (one ∷ others) (subst (λ left. AreLoaded held left (one ∷ others)) (sym next) (here, are)));
      unloaded = λ before now why is. so.unloaded before now why
          (subst (λ left. AreUnloaded held before now left why) (sym next)
          (inr (may_be_solved held (job_of job) (instance_of one.problem) here.problem, is)));
    }

-- no job is left
pub loading_last : (held : List ℕ → Option (List ℕ)) (jobs : List declared.Job) (i : ℕ) (loaded : List LoadedJob) → length jobs ≤ i
    → IsLoading held (map job_of jobs) (map job_of (drop i jobs)) loaded → AreLoaded held (map job_of jobs) loaded
loading_last held jobs i loaded past so =
    subst (AreLoaded held (map job_of jobs)) (append-nil loaded)
    (so.all_loaded [] (subst (λ left. AreLoaded held (map job_of left) []) (sym (drop_all i jobs past)) tt))

-- as many problems as jobs
pub loaded_count : (held : List ℕ → Option (List ℕ)) (jobs : List declared.Job) (loaded : List LoadedJob) → AreLoaded held (map job_of jobs) loaded
    → length loaded ≡ length jobs
loaded_count held [] [] are = refl
loaded_count held (job ∷ jobs) (one ∷ others) are = let rest = loaded_count held jobs others are.1 in omega arith
loaded_count held jobs loaded are = absurd are
