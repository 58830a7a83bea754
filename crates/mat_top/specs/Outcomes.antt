-- What a call does, where the shelf tells the files that it needs.
use Rattle.std.specs.Prelude.{◌≡◌, ◌≢◌, ℕ, ◌<◌, ◌≤◌, ◌⊎◌, true, false, List, [], ◌∷◌, ◌++◌, length, codes}
use Rattle.std.specs.Prelude.{Option, Some, None, IsSome, IfSome, IsSomeAnd, All}
use Rattle.mat_shelf.specs.Writing.{Appended, AppendedProperPrefix}
use Rattle.mat_desc.specs.Faults.{Fault}
use Rattle.mat_problem.specs.Instances.{Instance}
use Rattle.mat_desc.specs.Notations.{NamedInstance}
use Rattle.mat_desc.specs.Canonical.{canonical_text, named_text}
use Rattle.mat_desc.specs.Limits.{description_limit}
use Rattle.mat_cert.specs.Certificates.{Certificate}
use Rattle.mat_cert.specs.Faults as certificate_faults
use Rattle.mat_cert.specs.Limits.{certificate_limit}
use Rattle.mat_right.specs.Right.{IsRight}
use Rattle.mat_check.specs.Fitting.{fits, is_rooted}
use Rattle.mat_check.specs.declared.reason.Reason.{Reason}
use Rattle.mat_witness.specs.Kinds.{is_witnessed_pair}
use Rattle.mat_witness.specs.Lines.{witness_limit}
use Rattle.mat_judge.specs.declared.status.Status.{Status}
use Rattle.mat_judge.specs.declared.status.Status.TheVariants as statuses
use Rattle.mat_judge.specs.declared.refusal.Denial.{Denial}
use Rattle.mat_judge.specs.declared.refusal.Denial.TheVariants as denials
use Rattle.mat_judge.specs.declared.refusal.Refusal.{Refusal}
use Rattle.mat_judge.specs.declared.refusal.Refusal.TheVariants as refusals
use Rattle.mat_judge.specs.Described.{IsFaulty, IsDescribed, IsNamed}
use Rattle.mat_judge.specs.Notes.{note_of}
use Rattle.mat_judge.specs.Statuses.{status_of}
use Rattle.mat_judge.specs.Texts.{joined}
use Rattle.mat_command.specs.CommandLines.{Request, show, solve, cuts, check, witness, verify, Task, about, sample, batch, convert}
use Rattle.mat_judge.specs.Certified.{IsCertified, IsFaultyCertificate, IsWrong}
use Rattle.mat_verify.specs.WitnessOutcomes.{IsRungOutcome, IsVerifyOutcome, IsWitnessFound}
use Rattle.mat_verify.specs.Witnessing.{IsFaultyWitness, IsNotShowing, IsRungAnswer}
use Rattle.mat_top.specs.CutTexts.{HasPayableCosts, IsCutsText}
use Rattle.mat_command.specs.JobLists.{Job, IsListed, IsMislisted}
use Rattle.mat_solve.specs.Queries.{has_form}
use Rattle.mat_solve.specs.declared.query.Query.{Query}
use Rattle.mat_solve.specs.Answers.{IsSolutionText}
use Rattle.mat_summary.specs.Summaries.{IsSummary}

-- the form of the problem is that of the request; every form can be shown
abbrev pub HasForm : Request → Instance → Type 0
HasForm (solve query) instance = has_form query instance ≡ true
HasForm cuts instance = is_rooted instance ≡ true
HasForm request instance = Unit {0}

-- ---- the outcome of a request about a problem

-- the first row of the table that applies to the bytes of a description alone, by its status
abbrev pub IsDescriptionOutcome : List ℕ → Status → Type 0
IsDescriptionOutcome bytes statuses.TooLong = description_limit < length bytes
IsDescriptionOutcome bytes statuses.BadDescription = (fault : Fault) × IsFaulty bytes fault
IsDescriptionOutcome bytes status = ⊥

-- the first row that applies to the bytes of a certificate for a problem
abbrev pub IsCertificateOutcome : Instance → List ℕ → Status → Type 0
IsCertificateOutcome instance bytes statuses.TooLong = certificate_limit < length bytes
IsCertificateOutcome instance bytes statuses.BadCertificate = (fault : certificate_faults.Fault) × IsFaultyCertificate bytes fault
IsCertificateOutcome instance bytes statuses.WrongShape = (answer : Certificate) × IsCertified bytes answer × (fits instance answer ≡ false)
IsCertificateOutcome instance bytes statuses.Done =
    (answer : Certificate) × IsCertified bytes answer × (fits instance answer ≡ true) × IsRight instance answer
IsCertificateOutcome instance bytes statuses.No =
    (answer : Certificate) × IsCertified bytes answer × (fits instance answer ≡ true) × (IsRight instance answer → ⊥)
IsCertificateOutcome instance bytes status = ⊥

-- the first row that applies to an answer whose rung is to be witnessed
abbrev pub IsWitnessOutcome : Instance → Certificate → Status → Type 0
IsWitnessOutcome instance answer statuses.Done = IsRight instance answer
IsWitnessOutcome instance answer statuses.No = IsRight instance answer → ⊥
IsWitnessOutcome instance answer status = ⊥

-- the first row that applies to a problem whose costs have to be paid by weights of vertex sets
abbrev pub IsCutsOutcome : Instance → Status → Type 0
IsCutsOutcome instance statuses.WrongShape = HasForm cuts instance → ⊥
IsCutsOutcome instance statuses.BadCost = HasForm cuts instance × (HasPayableCosts instance → ⊥)
IsCutsOutcome instance statuses.Done = HasForm cuts instance × HasPayableCosts instance
IsCutsOutcome instance status = ⊥

-- the first row that applies to a problem that is to be solved
abbrev pub IsSolveOutcome : Query → Instance → Status → Type 0
IsSolveOutcome query instance statuses.WrongShape = HasForm (solve query) instance → ⊥
IsSolveOutcome query instance statuses.Done = HasForm (solve query) instance
IsSolveOutcome query instance status = ⊥

-- the first row that applies once the description spells this problem
abbrev pub IsProblemOutcome : (List ℕ → Option (List ℕ)) → Request → Instance → Status → Type 0
IsProblemOutcome held show instance status = status ≡ statuses.Done
IsProblemOutcome held (solve query) instance status = IsSolveOutcome query instance status
IsProblemOutcome held cuts instance status = IsCutsOutcome instance status
IsProblemOutcome held (check certificate) instance status =
    IsSomeAnd (held certificate) (λ bytes. IsCertificateOutcome instance bytes status)
IsProblemOutcome held (witness k certificate) instance status = IsSomeAnd (held certificate) (λ bytes.
    IsRungOutcome instance k bytes status ⊎ ((answer : Certificate) × IsRungAnswer instance k bytes answer × IsWitnessOutcome instance answer status))
IsProblemOutcome held (verify k certificate shown) instance status = IsSomeAnd (held certificate) (λ bytes.
    IsRungOutcome instance k bytes status ⊎ ((answer : Certificate) × IsRungAnswer instance k bytes answer
    × IsSomeAnd (held shown) (λ text. IsVerifyOutcome instance answer k text status)))

-- the first row that applies to a request about the problem that these bytes describe
abbrev pub IsBytesOutcome : (List ℕ → Option (List ℕ)) → Request → List ℕ → Status → Type 0
IsBytesOutcome held request bytes status =
    IsDescriptionOutcome bytes status ⊎ ((instance : Instance) × IsDescribed bytes instance × IsProblemOutcome held request instance status)

-- ---- jobs

-- the first row that applies to a job by itself
abbrev pub IsJobOutcome : (List ℕ → Option (List ℕ)) → Job → Status → Type 0
IsJobOutcome held job status = IsSomeAnd (held job.file) (λ bytes. IsBytesOutcome held (solve job.query) bytes status)

-- nothing that is told of the job's file refuses it
abbrev pub MayBeSolved : (List ℕ → Option (List ℕ)) → Job → Type 0
MayBeSolved held job = IfSome (held job.file) (λ bytes. IsBytesOutcome held (solve job.query) bytes statuses.Done)

-- the first job that is refused gives its status, and Done comes where none is
abbrev pub IsJobsOutcome : (List ℕ → Option (List ℕ)) → List Job → Status → Type 0
IsJobsOutcome held [] status = status ≡ statuses.Done
IsJobsOutcome held (job ∷ jobs) status =
    ((status ≢ statuses.Done) × IsJobOutcome held job status) ⊎ (IsJobOutcome held job statuses.Done × IsJobsOutcome held jobs status)

-- the first row of the table that applies to the bytes of a list alone
abbrev pub IsListOutcome : List ℕ → Status → Type 0
IsListOutcome bytes statuses.TooLong = description_limit < length bytes
IsListOutcome bytes statuses.BadList = (line : ℕ) × IsMislisted bytes line
IsListOutcome bytes status = ⊥

-- the first row that applies to the bytes of a list
abbrev pub IsBatchOutcome : (List ℕ → Option (List ℕ)) → List ℕ → Status → Type 0
IsBatchOutcome held bytes status = IsListOutcome bytes status ⊎ ((jobs : List Job) × IsListed bytes jobs × IsJobsOutcome held jobs status)

-- ---- the outcome

-- The status is that of the first row of the table that applies: Usage where the words are no command, and else what the files' bytes say.
-- A sample needs no file. A description that is converted is refused where it would not be shown.
abbrev pub IsOutcome : (List ℕ → Option (List ℕ)) → Option Task → Status → Type 0
IsOutcome held None status = status ≡ statuses.Usage
IsOutcome held (Some (about file request)) status = IsSomeAnd (held file) (λ bytes. IsBytesOutcome held request bytes status)
IsOutcome held (Some (sample kind size seed)) status = status ≡ statuses.Done
IsOutcome held (Some (batch list)) status = IsSomeAnd (held list) (λ bytes. IsBatchOutcome held bytes status)
IsOutcome held (Some (convert file)) status = IsSomeAnd (held file) (λ bytes. IsBytesOutcome held show bytes status)

-- the shelf tells the certificate, and the witness, where the outcome needs it
abbrev pub TellsCertificate : (List ℕ → Option (List ℕ)) → Request → List ℕ → Type 0
TellsCertificate held (check certificate) bytes = (instance : Instance) → IsDescribed bytes instance → IsSome (held certificate)
TellsCertificate held (witness k certificate) bytes = (instance : Instance) → IsDescribed bytes instance → IsSome (held certificate)
TellsCertificate held (verify k certificate shown) bytes = (instance : Instance) → IsDescribed bytes instance
    → IsSomeAnd (held certificate) (λ text. (answer : Certificate) → IsRungAnswer instance k text answer → IsSome (held shown))
TellsCertificate held request bytes = Unit {0}

-- the shelf tells the file of each job up to the first that is refused
abbrev pub TellsJobs : (List ℕ → Option (List ℕ)) → List Job → Type 0
TellsJobs held [] = Unit {0}
TellsJobs held (job ∷ jobs) = IsSome (held job.file) × (IsJobOutcome held job statuses.Done → TellsJobs held jobs)

-- the shelf tells the files that the outcome needs
abbrev pub Tells : (List ℕ → Option (List ℕ)) → Option Task → Type 0
Tells held None = Unit {0}
Tells held (Some (about file request)) = IsSomeAnd (held file) (TellsCertificate held request)
Tells held (Some (sample kind size seed)) = Unit {0}
Tells held (Some (batch list)) = IsSomeAnd (held list) (λ bytes. (jobs : List Job) → IsListed bytes jobs → TellsJobs held jobs)
Tells held (Some (convert file)) = IsSomeAnd (held file) (TellsCertificate held show)

-- the files that a request about the problem in this file reaches: that file, that of the certificate where nothing that is told of the
-- description refuses the call before, and that of the witness where nothing that is told of the description or of the certificate does: then
-- the description is that of two matroids that have witnesses
abbrev pub RequestReaches : (List ℕ → Option (List ℕ)) → List ℕ → Request → List ℕ → Type 0
RequestReaches held file (check certificate) name =
    (name ≡ file) ⊎ ((name ≡ certificate) × IfSome (held file) (λ bytes. (instance : Instance) × IsDescribed bytes instance))
RequestReaches held file (witness k certificate) name =
    (name ≡ file) ⊎ ((name ≡ certificate) × IfSome (held file) (λ bytes. (instance : Instance) × IsDescribed bytes instance))
RequestReaches held file (verify k certificate shown) name =
    (name ≡ file) ⊎ (((name ≡ certificate) × IfSome (held file) (λ bytes. (instance : Instance) × IsDescribed bytes instance))
    ⊎ ((name ≡ shown) × (instance : Instance) × IfSome (held file) (λ bytes. IsDescribed bytes instance)
    × (is_witnessed_pair instance ≡ true) × IfSome (held certificate) (λ text. (answer : Certificate) × IsRungAnswer instance k text answer)))
RequestReaches held file request name = name ≡ file

-- the files that jobs reach: each up to that of the first job that what is told of its file refuses
abbrev pub JobsReach : (List ℕ → Option (List ℕ)) → List Job → List ℕ → Type 0
JobsReach held [] name = ⊥
JobsReach held (job ∷ jobs) name = (name ≡ job.file) ⊎ (MayBeSolved held job × JobsReach held jobs name)

-- the files that the call reaches; where a list is not told, each name may be that of a job's file
abbrev pub CallReaches : (List ℕ → Option (List ℕ)) → Option Task → List ℕ → Type 0
CallReaches held None name = ⊥
CallReaches held (Some (about file request)) name = RequestReaches held file request name
CallReaches held (Some (sample kind size seed)) name = ⊥
CallReaches held (Some (batch list)) name =
    (name ≡ list) ⊎ IfSome (held list) (λ bytes. (jobs : List Job) × IsListed bytes jobs × JobsReach held jobs name)
CallReaches held (Some (convert file)) name = RequestReaches held file show name

-- ---- what is written

-- the text that says that a certificate is right
abbrev pub yes_text : List ℕ
yes_text = codes "yes" ++ 10 ∷ []

-- the text is what a request about a problem writes
abbrev pub IsTextFor : (List ℕ → Option (List ℕ)) → Request → Instance → List ℕ → Type 0
IsTextFor held show instance text = text ≡ canonical_text instance
IsTextFor held (solve query) instance text = HasForm (solve query) instance × IsSolutionText query instance text
IsTextFor held cuts instance text = HasPayableCosts instance × IsCutsText instance text
IsTextFor held (check certificate) instance text =
    (text ≡ yes_text) × IfSome (held certificate) (λ bytes. IsCertificateOutcome instance bytes statuses.Done)
IsTextFor held (witness k certificate) instance text = IfSome (held certificate) (λ bytes. IsWitnessFound instance k bytes text)
IsTextFor held (verify k certificate shown) instance text =
    (text ≡ yes_text) × IfSome (held certificate) (λ bytes. (answer : Certificate) × IsRungAnswer instance k bytes answer
    × IfSome (held shown) (λ witness. IsVerifyOutcome instance answer k witness statuses.Done))

-- the text is what the request writes for the problem that the bytes spell
pub record IsAnswerTo (held : List ℕ → Option (List ℕ)) (request : Request) (bytes text : List ℕ) : Type 0 where
  pub instance : Instance
  pub described : IsDescribed bytes instance
  pub answer : IsTextFor held request instance text

-- the text of a solving command is no longer than a certificate may be, and a witness no longer than one may be
abbrev pub IsShort : Request → List ℕ → Type 0
IsShort (solve query) text = length text ≤ certificate_limit
IsShort (witness k certificate) text = length text ≤ witness_limit
IsShort request text = Unit {0}

-- what may be written for a request about the problem in a file: where the file is told, what the request writes for it
pub record IsRequestOutput (held : List ℕ → Option (List ℕ)) (file : List ℕ) (request : Request) (text : List ℕ) : Type 0 where
  pub short : IsShort request text
  pub answer : IfSome (held file) (λ bytes. IsAnswerTo held request bytes text)

-- texts of jobs: for each in turn what may be written for it
abbrev pub AreJobTexts : (List ℕ → Option (List ℕ)) → List Job → List (List ℕ) → Type 0
AreJobTexts held [] [] = Unit {0}
AreJobTexts held (job ∷ jobs) (text ∷ texts) = IsRequestOutput held job.file (solve job.query) text × AreJobTexts held jobs texts
AreJobTexts held jobs texts = ⊥

-- what may be written for a list of jobs: texts one after the other, each no longer than a certificate may be, and where the list is told
-- those of its jobs in their order
pub record IsBatchOutput (held : List ℕ → Option (List ℕ)) (list text : List ℕ) : Type 0 where
  pub texts : List (List ℕ)
  pub whole : text ≡ joined texts
  pub short : All (λ piece. length piece ≤ certificate_limit) texts
  pub answers : IfSome (held list) (λ bytes. (jobs : List Job) × IsListed bytes jobs × AreJobTexts held jobs texts)

-- the text is the description of the problem that the bytes spell, with their names
pub record IsConversion (bytes text : List ℕ) : Type 0 where
  pub problem : NamedInstance
  pub named : IsNamed bytes problem
  pub whole : text ≡ named_text problem

-- what may be written where the command is done
abbrev pub IsOutput : (List ℕ → Option (List ℕ)) → Option Task → List ℕ → Type 0
IsOutput held None text = ⊥
IsOutput held (Some (about file request)) text = IsRequestOutput held file request text
IsOutput held (Some (sample kind size seed)) text = IsSummary kind size seed text
IsOutput held (Some (batch list)) text = IsBatchOutput held list text
IsOutput held (Some (convert file)) text = IfSome (held file) (λ bytes. IsConversion bytes text)

-- ---- the clauses of the top call

-- where the outcome is told, each status but the two faults and want of memory is that of the outcome, and a fault of
-- writing comes only where the outcome is Done
abbrev pub IsStatus : (List ℕ → Option (List ℕ)) → Option Task → Status → Type 0
IsStatus held asked statuses.ReadFault = Unit {0}
IsStatus held asked statuses.Memory = Unit {0}
IsStatus held asked statuses.WriteFault = IsOutcome held asked statuses.Done
IsStatus held asked status = IsOutcome held asked status

-- what was appended to the output: on Done the whole text, on a fault of writing a proper prefix of such a text, and else nothing
abbrev pub IsWritten : (List ℕ → Option (List ℕ)) → Option Task → Option (List ℕ) → Option (List ℕ) → Status → Type 0
IsWritten held asked old new statuses.Done = (text : List ℕ) × IsOutput held asked text × Appended old text new
IsWritten held asked old new statuses.WriteFault = (text : List ℕ) × IsOutput held asked text × AppendedProperPrefix old text new
IsWritten held asked old new status = new ≡ old

-- the first clause that fails of the answer in the certificate, over the problem in the description, tells this reason and these two places
pub record HasFailure (description certificate : List ℕ) (reason : Reason) (first second : ℕ) : Type 0 where
  pub instance : Instance
  pub described : IsDescribed description instance
  pub failed : IsWrong instance certificate reason first second

-- the witness for rung k of the answer in the certificate, over the problem in the description, has this first fault
pub record HasWitnessFault (k : ℕ) (description certificate bytes : List ℕ) (fault : certificate_faults.Fault) : Type 0 where
  pub instance : Instance
  pub described : IsDescribed description instance
  pub answer : Certificate
  pub of_rung : IsRungAnswer instance k certificate answer
  pub faulty : IsFaultyWitness instance answer k bytes fault

-- this part is the first of the witness that fails
pub record HasFailingPart (k : ℕ) (description certificate bytes : List ℕ) (part : ℕ) : Type 0 where
  pub instance : Instance
  pub described : IsDescribed description instance
  pub answer : Certificate
  pub of_rung : IsRungAnswer instance k certificate answer
  pub fails : IsNotShowing instance answer k bytes part

-- what denies a request about the problem in this file tells what is so: the first fault of the description, of the certificate or of the
-- witness, and the first clause or part that fails, where the files are told
abbrev pub IsTrueOfRequest : (List ℕ → Option (List ℕ)) → List ℕ → Request → Denial → Type 0
IsTrueOfRequest held file request (denials.BadDescription kind number) = IfSome (held file) (λ bytes. IsFaulty bytes (kind, number))
IsTrueOfRequest held file (check certificate) (denials.BadCertificate kind number) =
    IfSome (held certificate) (λ bytes. IsFaultyCertificate bytes (kind, number))
IsTrueOfRequest held file (check certificate) (denials.No reason first second) =
    IfSome (held file) (λ description. IfSome (held certificate) (λ bytes. HasFailure description bytes reason first second))
IsTrueOfRequest held file (check certificate) (denials.NotShown part) = ⊥
IsTrueOfRequest held file (witness k certificate) (denials.BadCertificate kind number) =
    IfSome (held certificate) (λ bytes. IsFaultyCertificate bytes (kind, number))
IsTrueOfRequest held file (witness k certificate) (denials.No reason first second) =
    IfSome (held file) (λ description. IfSome (held certificate) (λ bytes. HasFailure description bytes reason first second))
IsTrueOfRequest held file (witness k certificate) (denials.NotShown part) = ⊥
IsTrueOfRequest held file (verify k certificate shown) (denials.BadCertificate kind number) =
    IfSome (held certificate) (λ bytes. IsFaultyCertificate bytes (kind, number))
IsTrueOfRequest held file (verify k certificate shown) (denials.BadWitness kind number) =
    IfSome (held file) (λ description. IfSome (held certificate) (λ bytes. IfSome (held shown) (λ text.
    HasWitnessFault k description bytes text (kind, number))))
IsTrueOfRequest held file (verify k certificate shown) (denials.No reason first second) = ⊥
IsTrueOfRequest held file (verify k certificate shown) (denials.NotShown part) =
    IfSome (held file) (λ description. IfSome (held certificate) (λ bytes. IfSome (held shown) (λ text. HasFailingPart k description bytes text part)))
IsTrueOfRequest held file request denial = Unit {0}

-- what denies jobs tells what is so of the first that is refused
abbrev pub IsTrueOfJobs : (List ℕ → Option (List ℕ)) → List Job → Denial → Type 0
IsTrueOfJobs held [] denial = ⊥
IsTrueOfJobs held (job ∷ jobs) denial =
    IsTrueOfRequest held job.file (solve job.query) denial ⊎ (MayBeSolved held job × IsTrueOfJobs held jobs denial)

-- what denies a list tells what is so: the first line that is not the needed one, or the first fault of the first job that is refused
abbrev pub IsTrueOfList : (List ℕ → Option (List ℕ)) → List ℕ → Denial → Type 0
IsTrueOfList held list (denials.BadList line) = IfSome (held list) (λ bytes. IsMislisted bytes line)
IsTrueOfList held list (denials.BadDescription kind number) = IfSome (held list)
    (λ bytes. (jobs : List Job) × IsListed bytes jobs × IsTrueOfJobs held jobs (denials.BadDescription kind number))
IsTrueOfList held list denial = Unit {0}

-- what denies a task tells what is so
abbrev pub IsTrueOf : (List ℕ → Option (List ℕ)) → Option Task → Denial → Type 0
IsTrueOf held (Some (about file request)) denial = IsTrueOfRequest held file request denial
IsTrueOf held (Some (batch list)) denial = IsTrueOfList held list denial
IsTrueOf held (Some (convert file)) denial = IsTrueOfRequest held file show denial
IsTrueOf held asked denial = Unit {0}

-- a refusal tells what is so of the files where they deny the call
abbrev pub IsTold : (List ℕ → Option (List ℕ)) → Option Task → Refusal → Type 0
IsTold held asked (refusals.Denied denial) = IsTrueOf held asked denial
IsTold held asked refusal = Unit {0}

-- the note of a call that ended so: none on Done
abbrev pub IsNote : (List ℕ → Option (List ℕ)) → Option Task → Status → List ℕ → Type 0
IsNote held asked statuses.Done note = note ≡ []
IsNote held asked status note = (refusal : Refusal) × (status_of refusal ≡ status) × (note ≡ note_of refusal) × IsTold held asked refusal
