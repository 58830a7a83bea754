-- What the bytes of a certificate say, and why a file has no right answer to a problem.
use Rattle.std.specs.Prelude.{◌≡◌, ℕ, ◌≤◌, true, false, List, length, Option, IfSome, Some, Err}
use Rattle.mat_problem.specs.Instances.{Instance}
use Rattle.mat_cert.specs.Certificates.{Certificate, certificate_text, IsRanged}
use Rattle.mat_cert.specs.Faults.{CertRefusal, Fault}
use Rattle.mat_cert.specs.Limits.{certificate_limit}
use Rattle.mat_cert.specs.Reading.{read_of}
use Rattle.mat_words.specs.declared.refusal.Refusal.TheVariants as cert_refusals
use Rattle.mat_right.specs.Right.{IsRight}
use Rattle.mat_check.specs.AnswerClauses.{failure_of}
use Rattle.mat_check.specs.Clauses.{failure_at}
use Rattle.mat_check.specs.Fitting.{fits}
use Rattle.mat_check.specs.declared.reason.Reason.{Reason}
use Rattle.mat_judge.specs.declared.certified.Uncertified.{Uncertified}
use Rattle.mat_judge.specs.declared.certified.Uncertified.TheVariants as uncertified
use Rattle.mat_judge.specs.declared.certified.NotRight.{NotRight}
use Rattle.mat_judge.specs.declared.certified.NotRight.TheVariants as not_right
use Rattle.mat_judge.specs.declared.reading.Unread.TheVariants as unread
use Rattle.mat_judge.specs.WholeFiles.{IsUnread}

-- the bytes of a certificate have this first fault
pub record IsFaultyCertificate (bytes : List ℕ) (fault : Fault) : Type 0 where
  pub within : length bytes ≤ certificate_limit
  pub first : read_of bytes ≡ Err fault

-- the bytes are the text of this answer
pub record IsCertified (bytes : List ℕ) (answer : Certificate) : Type 0 where
  pub within : length bytes ≤ certificate_limit
  pub ranged : IsRanged answer
  pub text : bytes ≡ certificate_text answer

-- the bytes are the text of this right answer to the problem
pub record IsRightAnswer (instance : Instance) (bytes : List ℕ) (answer : Certificate) : Type 0 where
  pub certified : IsCertified bytes answer
  pub fitting : fits instance answer ≡ true
  pub right : IsRight instance answer

-- the bytes are the text of a right answer to the problem
abbrev pub HasRightAnswer : Instance → List ℕ → Type 0
HasRightAnswer instance bytes = (answer : Certificate) × IsRightAnswer instance bytes answer

-- the bytes are the text of an answer that does not fit the problem
pub record IsMisfit (instance : Instance) (bytes : List ℕ) : Type 0 where
  pub answer : Certificate
  pub certified : IsCertified bytes answer
  pub misfit : fits instance answer ≡ false

-- the bytes are the text of an answer that fits the problem and isn't right: the first of its clauses that fails tells this reason and these
-- two places
pub record IsWrong (instance : Instance) (bytes : List ℕ) (reason : Reason) (first second : ℕ) : Type 0 where
  pub answer : Certificate
  pub certified : IsCertified bytes answer
  pub fitting : fits instance answer ≡ true
  pub wrong : IsRight instance answer → ⊥
  pub fails : failure_of instance answer ≡ Some (failure_at reason first second)

-- what a reader that read no answer says of the certificate
abbrev pub uncertified_by : CertRefusal → Uncertified
uncertified_by (cert_refusals.Fault kind line) = uncertified.Fault kind line
uncertified_by cert_refusals.Memory = uncertified.Unread unread.Memory

-- why a file is no certificate: with what it holds, and the count of its faults before and after
abbrev pub IsUncertified : Option (List ℕ) → ℕ → ℕ → Uncertified → Type 0
IsUncertified held before now (uncertified.Unread why) = IsUnread held certificate_limit before now why
IsUncertified held before now (uncertified.Fault kind number) = IfSome held (λ bytes. IsFaultyCertificate bytes (kind, number))

-- why an answer was not found right for the problem: memory ran out, or it doesn't fit, or it isn't right, and the first of its clauses that
-- fails tells this reason and these two places
abbrev pub IsNotFoundRight : Instance → Certificate → NotRight → Type 0
IsNotFoundRight instance answer (not_right.Uncertified why) = why ≡ uncertified.Unread unread.Memory
IsNotFoundRight instance answer not_right.WrongShape = fits instance answer ≡ false
IsNotFoundRight instance answer (not_right.No reason first second) = (fits instance answer ≡ true) × (IsRight instance answer → ⊥)
    × (failure_of instance answer ≡ Some (failure_at reason first second))

-- why a file has no right answer to the problem: with what it holds, and the count of its faults before and after
abbrev pub IsNotRight : Instance → Option (List ℕ) → ℕ → ℕ → NotRight → Type 0
IsNotRight instance held before now (not_right.Uncertified why) = IsUncertified held before now why
IsNotRight instance held before now not_right.WrongShape = IfSome held (IsMisfit instance)
IsNotRight instance held before now (not_right.No reason first second) = IfSome held (λ bytes. IsWrong instance bytes reason first second)
