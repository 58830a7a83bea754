-- What a solving command printed is accepted: the text of a solution is that of an answer in range which fits the problem and is right.
use Rattle.mat_top.proofs.Common.{◌≡◌, ℕ, List, Option, Some, refl, inr, Instance, length-certificate_text, IsDescribed, IsCertificateOutcome, IsOutcome}
use Rattle.mat_cert.specs.Certificates.{Certificate, certificate_text}
use Rattle.mat_check.proofs.AnswerForms.{right_fits}
use Rattle.mat_solve.specs.declared.query.Query.{Query}
use Rattle.mat_judge.specs.declared.status.Status.TheVariants as statuses
use Rattle.mat_solve.specs.Answers.{IsSolution, IsSolutionText}
use Rattle.mat_command.specs.CommandLines as commands

pub solution_accepted : (instance : Instance) (answer : Certificate) → IsSolution instance answer
    → IsCertificateOutcome instance (certificate_text answer) statuses.Done
solution_accepted instance answer solution = (
  answer,
  record { within = length-certificate_text answer solution.ranged; ranged = solution.ranged; text = refl },
  right_fits instance answer solution.right,
  solution.right,
)

pub solution_checked : (held : List ℕ → Option (List ℕ)) (query : Query) (file other bytes text : List ℕ) (instance : Instance)
    → held file ≡ Some bytes → IsDescribed bytes instance → IsSolutionText query instance text → held other ≡ Some text
    → IsOutcome held (Some (commands.about file (commands.check other))) statuses.Done
solution_checked held query file other bytes text instance at described solved there =
    rw at (inr (instance, described, rw there (rw solved.whole (solution_accepted instance solved.certificate solved.solution))))
