-- The rungs of a right answer are right, and what is written of a witness that shows one is its text.
use Rattle.mat_verify.proofs.Common.{◌≡◌, ℕ, true, List, length, ltb-true, Instance, pair, has_rung, witness_text, IsShowing, fits_rung}
use Rattle.std.proofs.lemmas.Bool.{and_parts, false≢true}
use Rattle.std.proofs.lemmas.Option.{slice_get-get_or}
use Rattle.mat_problem.specs.Validity.{IsValid}
use Rattle.mat_cert.specs.declared.answer.PricedRung.{PricedRung}
use Rattle.mat_cert.specs.Certificates.{Certificate, IsRanged, intersect}
use Rattle.mat_right.specs.Right.{IsRight}
use Rattle.mat_check.specs.Fitting.{fits}
use Rattle.mat_witness.specs.Parts.{WitnessParts}
use Rattle.mat_witness.specs.Shown.{IsRightRungOf, IsShown, IsWitnessFor, rung_at}
use Rattle.mat_witness.proofs.WitnessLengths.{text_short}

-- ---- the rungs of a right answer

pub has_such_rung : (instance : Instance) (answer : Certificate) (k : ℕ) → fits_rung instance answer k ≡ true → has_rung answer k ≡ true
has_such_rung instance answer k fitting = (and_parts (fits instance answer) (has_rung answer k) fitting).1

-- of a ladder of two matroids
ladder_rung : (instance : Instance) (n : ℕ) (rungs : List PricedRung) (cut : List ℕ) (k : ℕ) → fits instance (intersect n rungs cut) ≡ true
    → has_rung (intersect n rungs cut) k ≡ true → IsRight instance (intersect n rungs cut) → IsRightRungOf instance (intersect n rungs cut) k
ladder_rung (pair w first second) n rungs cut k fitting has right =
    let one = right.1.each k (rung_at rungs k) (slice_get-get_or rungs k _ (ltb-true k (length rungs) has)) in
    record { counted = right.0; priced = one.priced; right = one.right; ends = right.1.ends }
ladder_rung instance n rungs cut k fitting has right = absurd (false≢true fitting)

some_rung : (instance : Instance) (answer : Certificate) (k : ℕ) → fits instance answer ≡ true → has_rung answer k ≡ true
    → IsRight instance answer → IsRightRungOf instance answer k
some_rung instance (intersect n rungs cut) k fitting has right = ladder_rung instance n rungs cut k fitting has right
some_rung instance answer k fitting has right = absurd (false≢true has)

pub right_rung : (instance : Instance) (answer : Certificate) (k : ℕ) → fits_rung instance answer k ≡ true → IsRight instance answer
    → IsRightRungOf instance answer k
right_rung instance answer k fitting right =
    let both = and_parts (fits instance answer) (has_rung answer k) fitting in
    some_rung instance answer k both.0 both.1 right

-- ---- the witness

-- the text that is written of a witness that shows its rung
pub written_shows : (instance : Instance) (answer : Certificate) (k : ℕ) (bytes : List ℕ) (parts : WitnessParts) → IsValid instance
    → IsRanged answer → fits_rung instance answer k ≡ true → IsWitnessFor instance answer k parts
    → IsShown instance answer k parts → bytes ≡ witness_text instance answer k parts → IsShowing instance answer k bytes
written_shows instance answer k bytes parts valid ranged fitting kinds shown whole = record {
  parts = parts;
  text = record {
    within = rw whole (text_short instance answer k parts valid ranged (has_such_rung instance answer k fitting) kinds shown);
    fitting = kinds;
    whole = whole;
  };
  shown = shown;
}
