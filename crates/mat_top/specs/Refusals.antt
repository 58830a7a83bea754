-- How a call ends: why it writes nothing, or what it writes.
use Rattle.std.specs.Prelude.{◌≡◌, ℕ, ◌≤◌, ◌⊎◌, true, List, length, Option, IfSome, Some, Result, Ok, Err}
use Rattle.mat_shelf.specs.Faults.{Rose}
use Rattle.mat_shelf.specs.Writing.{Appended, AppendedProperPrefix}
use Rattle.mat_problem.specs.Instances.{Instance}
use Rattle.mat_cert.specs.Limits.{certificate_limit}
use Rattle.mat_command.specs.CommandLines.{Request, show, solve, cuts, check, witness, verify, Task}
use Rattle.mat_command.specs.JobLists.{Job}
use Rattle.mat_judge.specs.Certified.{IsNotRight}
use Rattle.mat_judge.specs.Described.{IsDescribed}
use Rattle.mat_judge.specs.Statuses.{status_of_denial, out_of_memory, refusal_of_not_right}
use Rattle.mat_judge.specs.declared.certified.NotRight.{NotRight}
use Rattle.mat_judge.specs.declared.reading.Unread.TheVariants as unread
use Rattle.mat_judge.specs.declared.refusal.Denial.TheVariants as denials
use Rattle.mat_judge.specs.declared.refusal.Refusal.{Refusal}
use Rattle.mat_judge.specs.declared.refusal.Refusal.TheVariants as refusals
use Rattle.mat_judge.specs.declared.status.Status.TheVariants as statuses
use Rattle.mat_solve.specs.Queries.{has_form}
use Rattle.mat_solve.specs.declared.query.Query.{Query}
use Rattle.mat_solve.specs.Answers.{IsSolutionText}
use Rattle.mat_top.specs.CutTexts.{HasPayableCosts}
use Rattle.mat_top.specs.Outcomes.{HasForm, IsTextFor, IsShort, CallReaches, Tells, IsOutcome, IsOutput, IsTrueOf}
use Rattle.mat_verify.specs.WitnessRefusals.{HasNoWitness, IsUnverified}

-- ---- what a request writes for a problem

-- the text is that of a right answer to the query, and no longer than a certificate may be
pub record HasSolutionText (query : Query) (instance : Instance) (text : List ℕ) : Type 0 where
  pub form : has_form query instance ≡ true
  pub solution : IsSolutionText query instance text
  pub short : length text ≤ certificate_limit

-- the form of the problem is not that of the request
abbrev pub IsMisshapen : Request → Instance → Refusal → Type 0
IsMisshapen request instance refusal = (refusal ≡ refusals.Denied denials.WrongShape) × (HasForm request instance → ⊥)

-- its form is, and its costs can't be paid by weights of vertex sets
abbrev pub IsUnpayable : Instance → Refusal → Type 0
IsUnpayable instance refusal = (refusal ≡ refusals.Denied denials.BadCost) × HasForm cuts instance × (HasPayableCosts instance → ⊥)

-- why there is no text for a problem: with the counts of the shelf's faults before and after
abbrev pub HasNoText : (List ℕ → Option (List ℕ)) → Request → Instance → (List ℕ → ℕ) → (List ℕ → ℕ) → Refusal → Type 0
HasNoText held show instance before now refusal = refusal ≡ out_of_memory
HasNoText held (solve query) instance before now refusal = (refusal ≡ out_of_memory) ⊎ IsMisshapen (solve query) instance refusal
HasNoText held cuts instance before now refusal =
    (refusal ≡ out_of_memory) ⊎ (IsMisshapen cuts instance refusal ⊎ IsUnpayable instance refusal)
HasNoText held (check certificate) instance before now refusal = (why : NotRight) × (refusal ≡ refusal_of_not_right why)
    × IsNotRight instance (held certificate) (before certificate) (now certificate) why
HasNoText held (witness k certificate) instance before now refusal =
    HasNoWitness instance k (held certificate) (before certificate) (now certificate) refusal
HasNoText held (verify k certificate shown) instance before now refusal =
    IsUnverified held instance k certificate shown before now refusal

-- there is a text for a problem: the request writes this
pub record HasText (held : List ℕ → Option (List ℕ)) (request : Request) (instance : Instance) (text : List ℕ) : Type 0 where
  pub answer : IsTextFor held request instance text
  pub short : IsShort request text

-- ---- jobs

-- the problem of a job: what its file holds describes it, where that is told, and its form is that of the query
pub record IsJobProblem (held : List ℕ → Option (List ℕ)) (job : Job) (instance : Instance) : Type 0 where
  pub described : IfSome (held job.file) (λ bytes. IsDescribed bytes instance)
  pub form : has_form job.query instance ≡ true

-- ---- the whole call

-- the text may be written: it is what the command writes, and the outcome is Done where the files are told
pub record MayBeWritten (held : List ℕ → Option (List ℕ)) (task : Task) (text : List ℕ) : Type 0 where
  pub output : IsOutput held (Some task) text
  pub outcome : Tells held (Some task) → IsOutcome held (Some task) statuses.Done

-- why a command gives no text: with the counts of the shelf's faults before and after
abbrev pub IsRefusal : (List ℕ → Option (List ℕ)) → Task → (List ℕ → ℕ) → (List ℕ → ℕ) → Refusal → Type 0
IsRefusal held task before now refusals.Usage = ⊥
IsRefusal held task before now refusals.WriteFault = ⊥
IsRefusal held task before now (refusals.Unread unread.Fault) =
    (name : List ℕ) × CallReaches held (Some task) name × Rose (before name) (now name)
IsRefusal held task before now (refusals.Unread unread.TooLong) = Tells held (Some task) → IsOutcome held (Some task) statuses.TooLong
IsRefusal held task before now (refusals.Unread unread.Memory) = Unit {0}
IsRefusal held task before now (refusals.Denied denial) =
    (Tells held (Some task) → IsOutcome held (Some task) (status_of_denial denial)) × IsTrueOf held (Some task) denial

-- how the writing of a text ended: with what is told and the count of faults before and after
abbrev pub IsPut : List ℕ → Option (List ℕ) → ℕ → Option (List ℕ) → ℕ → Result (Unit {0}) Refusal → Type 0
IsPut text old before new now (Ok done) = Appended old text new
IsPut text old before new now (Err refusals.WriteFault) = AppendedProperPrefix old text new × Rose before now
IsPut text old before new now (Err refusal) = ⊥

-- how a command ended: with the counts of the shelf's faults, and what the output tells and its count of faults, before and after
abbrev pub IsEnded : (List ℕ → Option (List ℕ)) → Task → (List ℕ → ℕ) → (List ℕ → ℕ) → Option (List ℕ) → ℕ
    → Option (List ℕ) → ℕ
    → Result (Unit {0}) Refusal → Type 0
IsEnded held task before now old out_before new out_now (Ok done) = (text : List ℕ) × MayBeWritten held task text × Appended old text new
IsEnded held task before now old out_before new out_now (Err refusals.WriteFault) =
    (text : List ℕ) × MayBeWritten held task text × AppendedProperPrefix old text new × Rose out_before out_now
IsEnded held task before now old out_before new out_now (Err refusal) = IsRefusal held task before now refusal × (new ≡ old)
