-- Which row of the table of outcomes applies to the bytes of a certificate and of a witness, and when a witness was found.
use Rattle.std.specs.Prelude.{◌≡◌, ℕ, ◌<◌, true, false, List, length}
use Rattle.mat_problem.specs.Instances.{Instance}
use Rattle.mat_cert.specs.Certificates.{Certificate}
use Rattle.mat_cert.specs.Faults.{Fault}
use Rattle.mat_cert.specs.Limits.{certificate_limit}
use Rattle.mat_right.specs.Right.{IsRight}
use Rattle.mat_witness.specs.Kinds.{is_witnessed_pair}
use Rattle.mat_witness.specs.Lines.{witness_limit}
use Rattle.mat_judge.specs.Certified.{IsCertified, IsFaultyCertificate}
use Rattle.mat_judge.specs.declared.status.Status.{Status}
use Rattle.mat_judge.specs.declared.status.Status.TheVariants as statuses
use Rattle.mat_verify.specs.Witnessing.{IsFaultyWitness, IsNotShowing, IsRungAnswer, IsShowing, fits_rung}

-- the first row that applies to the bytes of a certificate before a rung of it is witnessed
abbrev pub IsRungOutcome : Instance → ℕ → List ℕ → Status → Type 0
IsRungOutcome instance k bytes statuses.TooLong = certificate_limit < length bytes
IsRungOutcome instance k bytes statuses.BadCertificate = (fault : Fault) × IsFaultyCertificate bytes fault
IsRungOutcome instance k bytes statuses.WrongShape =
    (answer : Certificate) × IsCertified bytes answer × (fits_rung instance answer k ≡ false)
IsRungOutcome instance k bytes statuses.Unwitnessed =
    (answer : Certificate) × IsCertified bytes answer × (fits_rung instance answer k ≡ true) × (is_witnessed_pair instance ≡ false)
IsRungOutcome instance k bytes status = ⊥

-- the first row that applies to the bytes of a witness for rung k of an answer
abbrev pub IsVerifyOutcome : Instance → Certificate → ℕ → List ℕ → Status → Type 0
IsVerifyOutcome instance answer k bytes statuses.TooLong = witness_limit < length bytes
IsVerifyOutcome instance answer k bytes statuses.BadWitness = (fault : Fault) × IsFaultyWitness instance answer k bytes fault
IsVerifyOutcome instance answer k bytes statuses.Done = IsShowing instance answer k bytes
IsVerifyOutcome instance answer k bytes statuses.No = (part : ℕ) × IsNotShowing instance answer k bytes part
IsVerifyOutcome instance answer k bytes status = ⊥

-- the text is that of a witness that shows rung k of the right answer in the certificate
pub record IsWitnessFound (instance : Instance) (k : ℕ) (bytes text : List ℕ) : Type 0 where
  pub answer : Certificate
  pub of_rung : IsRungAnswer instance k bytes answer
  pub right : IsRight instance answer
  pub shows : IsShowing instance answer k text
