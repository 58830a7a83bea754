-- The texts of witnesses for a problem and an answer: what is read is one, and what is one is read.
use Rattle.mat_witness.proofs.Common.{◌≡◌, ℕ, ◌<◌, true, List, length, Result, Ok, Err, IfOk, refl, sym, ◌∙◌, arith, Some, slice_get, get_or, subst, get_or_default, slice_get_read, and_parts, ltb-true, text_of, Weight, Tree, gf2, IsValid, IsValidTree, Instance, pair, PricedRung, Certificate}
use Rattle.mat_witness.proofs.Common.{IsRanged, intersect, Gives, CertRefusal, Fault, has_rung, is_witnessed, is_witnessed_pair, witness_lines, witness_text, WitnessParts, read_of, witness_at, AreBoundsFor, IsWitnessFor, bounded_trees, rung_at}
use Rattle.mat_problem.specs.Instances as instances
use Rattle.mat_words.specs.declared.refusal.Refusal.TheVariants as refusals
use Rattle.mat_cert.specs.Certificates as certificates
use Rattle.mat_witness.specs.RungRanges.{AreRungRanges}
use Rattle.mat_witness.proofs.BoundRows.{All-bounded_trees}
use Rattle.mat_witness.proofs.FreeLines.{HasDigits}
use Rattle.mat_witness.proofs.WitnessLines.{whole_text, witness_found, witness_again}

-- a matroid in range has digits, where it has columns
has_digits : (n : ℕ) (tree : Tree) → IsValidTree n tree → HasDigits tree
has_digits n (gf2 dim columns) valid = valid.1
has_digits n _ valid = tt

-- a text that is read is the text of the witness that was read, which is one for the rung
pub text_found : (instance : Instance) (answer : Certificate) (k : ℕ) (text : List ℕ) (witness : WitnessParts) → is_witnessed_pair instance ≡ true
    → read_of instance answer k text ≡ Ok witness
    → IsWitnessFor instance answer k witness × (text ≡ witness_text instance answer k witness)
unfolding read_of
text_found (pair w first second) (intersect n rungs cut) k text witness kinds e =
    let trees = bounded_trees first second k (rung_at rungs k) in
    let both = and_parts (is_witnessed first) (is_witnessed second) kinds in
    let read = witness_found (length w) first second trees k text witness
    (record {
      first_kind = both.0;
      second_kind = both.1;
      kinds = All-bounded_trees (λ (tree : Tree). is_witnessed tree ≡ true) first second k (rung_at rungs k) both.0 both.1;
    }) e in (
      record {
        same = read.0.same;
        first_part = read.0.first_part;
        second_part = read.0.second_part;
        bound_parts = read.0.bound_parts;
      },
      read.1,
    )
text_found _ answer k text _ kinds e = absurd cc

-- the text of a witness for the rung is read as that witness
pub text_again : (instance : Instance) (answer : Certificate) (k : ℕ) (text : List ℕ) (witness : WitnessParts) → IsValid instance
    → IsWitnessFor instance answer k witness → text ≡ witness_text instance answer k witness → read_of instance answer k text ≡ Ok witness
unfolding read_of
text_again (pair w first second) (intersect n rungs cut) k text witness valid fits whole =
    let trees = bounded_trees first second k (rung_at rungs k) in
    let one = has_digits (length w) first valid.1.0 in
    let two = has_digits (length w) second valid.2.0 in
    witness_again (length w) first second trees k text witness
    (record {
      first_digits = one;
      second_digits = two;
      digits = All-bounded_trees HasDigits first second k (rung_at rungs k) one two;
    })
    (record {
      same = fits.same;
      first_part = fits.first_part;
      second_part = fits.second_part;
      bound_parts = fits.bound_parts;
    }) whole
text_again _ answer k text _ valid fits whole = absurd fits

-- ---- the rung of an answer

-- the rung is there
pub rung_inside : (n : ℕ) (rungs : List PricedRung) (cut : List ℕ) (k : ℕ) → has_rung (intersect n rungs cut) k ≡ true → k < length rungs
rung_inside n rungs cut k has = ltb-true k (length rungs) has

-- it is in range, and so are its matroids
pub rung_ranges : (w : List Weight) (first second : Tree) (n : ℕ) (rungs : List PricedRung) (cut : List ℕ) (k : ℕ) (rung : PricedRung)
    → IsValid (pair w first second) → IsRanged (intersect n rungs cut) → has_rung (intersect n rungs cut) k ≡ true
    → slice_get rungs k ≡ Some rung → AreRungRanges (length w) k first second rung
rung_ranges w first second n rungs cut k rung valid ranged has at =
    let inside = rung_inside n rungs cut k has in
    let here = ranged.0.each k rung at in
    record {
      few = omega (arith, inside, ranged.0.no_more, ranged.0.few);
      first_matroid = valid.1.0;
      second_matroid = valid.2.0;
      first_half = omega (arith, here.1.size, ranged.0.few);
      second_half = omega (arith, here.2.size, ranged.0.few);
    }

-- the rung that was taken from the list
pub rung_taken : (rungs : List PricedRung) (k : ℕ) (rung : PricedRung) → k < length rungs → rung ≡ get_or rungs k rung
    → rung ≡ rung_at rungs k
rung_taken rungs k rung inside at = at ∙ get_or_default rungs k rung _ inside

-- so its matroids and its halves are in range
pub taken_ranges : (w : List Weight) {first second : Tree} {n : ℕ} {rungs : List PricedRung} {cut : List ℕ} {k : ℕ} {rung : PricedRung}
    → IsValid (pair w first second) → IsRanged (intersect n rungs cut) → has_rung (intersect n rungs cut) k ≡ true
    → rung ≡ get_or rungs k rung → AreRungRanges (length w) k first second rung
taken_ranges w {first} {second} {n} {rungs} {cut} {k} {rung} valid ranged has at =
    rung_ranges w first second n rungs cut k rung valid ranged has
    (slice_get_read rungs (length rungs) k rung refl (rung_inside n rungs cut k has) at)

-- what is read with a rung that was taken
pub gives_read : {X : Type 0} (view : X → WitnessParts) (result : Result X CertRefusal) (w : List Weight) (first second : Tree) (n : ℕ)
    (rungs : List PricedRung) (cut : List ℕ) (k : ℕ) (rung : PricedRung) (text : List ℕ) (many : ℕ) → many ≡ length w → rung ≡ rung_at rungs k
    → Gives view result (witness_at many first second (bounded_trees first second k rung) k (whole_text text))
    → Gives view result (read_of (pair w first second) (intersect n rungs cut) k text)
unfolding read_of
gives_read view result w first second n rungs cut k rung text many as_many taken gives =
    let counted = subst (λ (m : ℕ). Gives view result (witness_at m first second (bounded_trees first second k rung) k (whole_text text)))
    as_many gives in
    subst (λ (r : PricedRung). Gives view result (witness_at (length w) first second (bounded_trees first second k r) k (whole_text text)))
    taken counted

-- the bounds of a witness for it
pub taken_bounds : (w : List Weight) (first second : Tree) (n : ℕ) (rungs : List PricedRung) (cut : List ℕ) (k : ℕ) (rung : PricedRung)
    (witness : WitnessParts) → k < length rungs → rung ≡ get_or rungs k rung
    → IsWitnessFor (pair w first second) (intersect n rungs cut) k witness
    → AreBoundsFor (length w) (bounded_trees first second k rung) witness.bounds
taken_bounds w first second n rungs cut k rung witness inside at fits =
    subst (λ (r : PricedRung). AreBoundsFor (length w) (bounded_trees first second k r) witness.bounds)
    (sym (rung_taken rungs k rung inside at)) fits.bound_parts

-- what is written with it
pub as_written : {X E : Type 0} (text : X → List ℕ) (result : Result X E) (w : List Weight) (first second : Tree) (n : ℕ)
    (rungs : List PricedRung) (cut : List ℕ) (k : ℕ) (rung : PricedRung) (witness : WitnessParts) → rung ≡ rung_at rungs k
    → IfOk result (λ x. text x ≡ text_of (witness_lines first second (bounded_trees first second k rung) witness))
    → IfOk result (λ x. text x ≡ witness_text (pair w first second) (intersect n rungs cut) k witness)
as_written text result w first second n rungs cut k rung witness taken written =
    subst (λ (r : PricedRung). IfOk result (λ x. text x ≡ text_of (witness_lines first second (bounded_trees first second k r) witness)))
    taken written

-- ---- any text

abbrev read_one : WitnessParts → Result WitnessParts Fault
read_one witness = Ok witness

same_witness : (first second : WitnessParts) → read_one first ≡ read_one second → first ≡ second
same_witness first second e = cc

-- different witnesses have different texts
pub one_witness : (instance : Instance) (answer : Certificate) (k : ℕ) (first second : WitnessParts) → IsValid instance
    → IsWitnessFor instance answer k first → IsWitnessFor instance answer k second
    → witness_text instance answer k first ≡ witness_text instance answer k second → first ≡ second
one_witness instance answer k first second valid one two e =
    same_witness first second (sym (text_again instance answer k (witness_text instance answer k first) first valid one refl)
    ∙ text_again instance answer k (witness_text instance answer k first) second valid two e)

-- ---- what a call gives

pub gives_fits : {X : Type 0} (view : X → WitnessParts) (instance : Instance) (answer : Certificate) (k : ℕ) (text : List ℕ)
    (result : Result X CertRefusal) → is_witnessed_pair instance ≡ true → Gives view result (read_of instance answer k text)
    → IfOk result (λ x. IsWitnessFor instance answer k (view x))
gives_fits view instance answer k text (Ok x) kinds gives = (text_found instance answer k text (view x) kinds gives).0
gives_fits view instance answer k text (Err refusal) kinds gives = tt

pub gives_found : {X : Type 0} (view : X → WitnessParts) (instance : Instance) (answer : Certificate) (k : ℕ) (text : List ℕ)
    (result : Result X CertRefusal) → is_witnessed_pair instance ≡ true → Gives view result (read_of instance answer k text)
    → IfOk result (λ x. text ≡ witness_text instance answer k (view x))
gives_found view instance answer k text (Ok x) kinds gives = (text_found instance answer k text (view x) kinds gives).1
gives_found view instance answer k text (Err refusal) kinds gives = tt

pub gives_only : {X : Type 0} (view : X → WitnessParts) (instance : Instance) (answer : Certificate) (k : ℕ) (text : List ℕ)
    (result : Result X CertRefusal) → IsValid instance → Gives view result (read_of instance answer k text)
    → (parts : WitnessParts) → IsWitnessFor instance answer k parts → text ≡ witness_text instance answer k parts → Gives view result (Ok parts)
gives_only view instance answer k text (Ok x) valid gives parts fits whole = sym (text_again instance answer k text parts valid fits whole) ∙ gives
gives_only view instance answer k text (Err refusals.Memory) valid gives parts fits whole = tt
gives_only view instance answer k text (Err (refusals.Fault kind line)) valid gives parts fits whole =
    sym (text_again instance answer k text parts valid fits whole) ∙ gives
