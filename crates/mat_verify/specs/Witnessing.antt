-- Rungs of certificates that witnesses show: which answers have them, and what the bytes of a certificate and of a witness say.
use Rattle.std.specs.Prelude.{◌≡◌, ℕ, ◌≤◌, Bool, true, ◌&&◌, List, length, Some, Err}
use Rattle.mat_problem.specs.Instances.{Instance}
use Rattle.mat_cert.specs.Certificates.{Certificate}
use Rattle.mat_cert.specs.Faults.{Fault}
use Rattle.mat_check.specs.Fitting.{fits}
use Rattle.mat_witness.specs.Kinds.{has_rung, is_witnessed_pair}
use Rattle.mat_witness.specs.Lines.{witness_limit, witness_text}
use Rattle.mat_witness.specs.Parts.{WitnessParts}
use Rattle.mat_witness.specs.Reading as witness_reading
use Rattle.mat_witness.specs.Shown.{IsShown, IsWitnessFor, failing_part}
use Rattle.mat_judge.specs.Certified.{IsCertified}

-- whether the answer fits the problem and is one to `intersect` that has this rung
abbrev pub fits_rung : Instance → Certificate → ℕ → Bool
fits_rung instance answer k = fits instance answer && has_rung answer k

-- the bytes are the text of this answer, which fits the problem, has rung k, and is about matroids of witnessed kinds
pub record IsRungAnswer (instance : Instance) (k : ℕ) (bytes : List ℕ) (answer : Certificate) : Type 0 where
  pub certified : IsCertified bytes answer
  pub fitting : fits_rung instance answer k ≡ true
  pub witnessed : is_witnessed_pair instance ≡ true

-- the bytes of a witness for rung k of this answer have this first fault
pub record IsFaultyWitness (instance : Instance) (answer : Certificate) (k : ℕ) (bytes : List ℕ) (fault : Fault) : Type 0 where
  pub within : length bytes ≤ witness_limit
  pub first : witness_reading.read_of instance answer k bytes ≡ Err fault

-- the bytes are the text of this witness for rung k of this answer
pub record IsWitnessText (instance : Instance) (answer : Certificate) (k : ℕ) (bytes : List ℕ) (parts : WitnessParts) : Type 0 where
  pub within : length bytes ≤ witness_limit
  pub fitting : IsWitnessFor instance answer k parts
  pub whole : bytes ≡ witness_text instance answer k parts

-- the bytes are the text of a witness that shows rung k of this answer
pub record IsShowing (instance : Instance) (answer : Certificate) (k : ℕ) (bytes : List ℕ) : Type 0 where
  pub parts : WitnessParts
  pub text : IsWitnessText instance answer k bytes parts
  pub shown : IsShown instance answer k parts

-- the bytes are the text of a witness of which this part is the first that fails
pub record IsNotShowing (instance : Instance) (answer : Certificate) (k : ℕ) (bytes : List ℕ) (part : ℕ) : Type 0 where
  pub parts : WitnessParts
  pub text : IsWitnessText instance answer k bytes parts
  pub fails : failing_part instance answer k parts ≡ Some part
