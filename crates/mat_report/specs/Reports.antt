-- What is written of the right answer that a certificate has to the problem of a description.
use Rattle.std.specs.Prelude.{◌≡◌, ℕ, List, Option, IfSome}
use Rattle.mat_shelf.specs.Writing.{Appended, AppendedProperPrefix}
use Rattle.mat_cert.specs.Certificates.{Certificate}
use Rattle.mat_right.specs.Right.{IsRight}
use Rattle.mat_command.specs.CommandLines.{Task, about, check}
use Rattle.mat_desc.specs.Notations.{NamedInstance}
use Rattle.mat_judge.specs.Certified.{IsRightAnswer}
use Rattle.mat_judge.specs.Described.{IsNamed}
use Rattle.mat_judge.specs.declared.status.Status.{Status}
use Rattle.mat_judge.specs.declared.status.Status.TheVariants as statuses

-- what is proved of a text about a problem with its names and an answer
abbrev pub Saying : Type 1
Saying = NamedInstance → Certificate → List ℕ → Type 0

-- what is asked: whether the certificate is right for the description
abbrev pub check_of : List ℕ → List ℕ → Task
check_of description certificate = about description (check certificate)

-- `says` holds of the text for a right answer to the problem: for that of the certificate, where it is told
pub record IsAnswerReport (says : Saying) (held : Option (List ℕ)) (problem : NamedInstance) (text : List ℕ) : Type 0 where
  pub answer : Certificate
  pub answered : IfSome held (λ bytes. IsRightAnswer problem.instance bytes answer)
  pub right : IsRight problem.instance answer
  pub said : says problem answer text

-- `says` holds of the text for a problem with its names, and for a right answer to it: for those of the files, where they are told
pub record IsReport (says : Saying) (held : List ℕ → Option (List ℕ)) (description certificate text : List ℕ) : Type 0 where
  pub problem : NamedInstance
  pub named : IfSome (held description) (λ bytes. IsNamed bytes problem)
  pub reported : IsAnswerReport says (held certificate) problem text

-- what was appended to the output: on Done the whole text, on a fault of writing a proper prefix of such a text, and else nothing
abbrev pub IsReportWritten : Saying → (List ℕ → Option (List ℕ)) → List ℕ → List ℕ → Option (List ℕ) → Option (List ℕ) → Status → Type 0
IsReportWritten says held description certificate old new statuses.Done =
    (text : List ℕ) × IsReport says held description certificate text × Appended old text new
IsReportWritten says held description certificate old new statuses.WriteFault =
    (text : List ℕ) × IsReport says held description certificate text × AppendedProperPrefix old text new
IsReportWritten says held description certificate old new status = new ≡ old
