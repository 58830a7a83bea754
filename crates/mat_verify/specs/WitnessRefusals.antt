-- Why a rung of a certificate has no witness, or is not verified.
use Rattle.std.specs.Prelude.{◌≡◌, ℕ, ◌⊎◌, true, false, List, Option, IfSome, Some}
use Rattle.mat_problem.specs.Instances.{Instance}
use Rattle.mat_cert.specs.Faults.{CertRefusal}
use Rattle.mat_cert.specs.Certificates.{Certificate}
use Rattle.mat_words.specs.declared.refusal.Refusal.TheVariants as cert_refusals
use Rattle.mat_right.specs.Right.{IsRight}
use Rattle.mat_check.specs.AnswerClauses.{failure_of}
use Rattle.mat_check.specs.Clauses.{failure_at}
use Rattle.mat_check.specs.declared.reason.Reason.{Reason}
use Rattle.mat_witness.specs.Kinds.{is_witnessed_pair}
use Rattle.mat_witness.specs.Lines.{witness_limit}
use Rattle.mat_judge.specs.Certified.{IsUncertified}
use Rattle.mat_judge.specs.Statuses.{out_of_memory, refusal_of_uncertified}
use Rattle.mat_judge.specs.WholeFiles.{IsUnread}
use Rattle.mat_judge.specs.declared.reading.Unread.TheVariants as unread
use Rattle.mat_judge.specs.declared.refusal.Denial.TheVariants as denials
use Rattle.mat_judge.specs.declared.refusal.Refusal.{Refusal}
use Rattle.mat_judge.specs.declared.refusal.Refusal.TheVariants as refusals
use Rattle.mat_judge.specs.declared.status.Status.TheVariants as statuses
use Rattle.mat_verify.specs.WitnessOutcomes.{IsRungOutcome}
use Rattle.mat_verify.specs.Witnessing.{IsFaultyWitness, IsNotShowing, IsRungAnswer, fits_rung}
use Rattle.mat_verify.specs.declared.refusals.NoRung.{NoRung}
use Rattle.mat_verify.specs.declared.refusals.NoRung.TheVariants as no_rung
use Rattle.mat_verify.specs.declared.refusals.Unshown.{Unshown}
use Rattle.mat_verify.specs.declared.refusals.Unshown.TheVariants as unshown

-- ---- what each says of the layer below, and the refusal of the call that comes of it

-- what a reader that read no witness says of it
abbrev pub unshown_by : CertRefusal → Unshown
unshown_by (cert_refusals.Fault kind line) = unshown.Fault kind line
unshown_by cert_refusals.Memory = unshown.Unread unread.Memory

-- the refusal of a call whose certificate has no answer of which the rung can be witnessed
abbrev pub refusal_of_no_rung : NoRung → Refusal
refusal_of_no_rung (no_rung.Uncertified why) = refusal_of_uncertified why
refusal_of_no_rung no_rung.WrongShape = refusals.Denied denials.WrongShape
refusal_of_no_rung no_rung.Unwitnessed = refusals.Denied denials.Unwitnessed

-- the refusal of a call whose witness doesn't show the rung
abbrev pub refusal_of_unshown : Unshown → Refusal
refusal_of_unshown (unshown.Unread why) = refusals.Unread why
refusal_of_unshown (unshown.Fault kind line) = refusals.Denied (denials.BadWitness kind line)
refusal_of_unshown (unshown.Part part) = refusals.Denied (denials.NotShown part)

-- ---- the reasons

-- why this rung of an answer can't be witnessed: the answer doesn't fit the problem or has no such rung, or a matroid is of another kind
abbrev pub IsUnwitnessable : Instance → Certificate → ℕ → NoRung → Type 0
IsUnwitnessable instance answer k (no_rung.Uncertified why) = ⊥
IsUnwitnessable instance answer k no_rung.WrongShape = fits_rung instance answer k ≡ false
IsUnwitnessable instance answer k no_rung.Unwitnessed = (fits_rung instance answer k ≡ true) × (is_witnessed_pair instance ≡ false)

-- why a file has no answer of which this rung can be witnessed: with what it holds, and the count of its faults before and after
abbrev pub HasNoRung : Instance → ℕ → Option (List ℕ) → ℕ → ℕ → NoRung → Type 0
HasNoRung instance k held before now (no_rung.Uncertified why) = IsUncertified held before now why
HasNoRung instance k held before now no_rung.WrongShape = IfSome held (λ bytes. IsRungOutcome instance k bytes statuses.WrongShape)
HasNoRung instance k held before now no_rung.Unwitnessed = IfSome held (λ bytes. IsRungOutcome instance k bytes statuses.Unwitnessed)

-- the bytes have an answer of which this rung can be witnessed, which isn't right: the first of its clauses that fails tells this
-- reason and these two places
pub record IsWrongRung (instance : Instance) (k : ℕ) (bytes : List ℕ) (reason : Reason) (first second : ℕ) : Type 0 where
  pub answer : Certificate
  pub of_rung : IsRungAnswer instance k bytes answer
  pub wrong : IsRight instance answer → ⊥
  pub fails : failure_of instance answer ≡ Some (failure_at reason first second)

-- why there is no witness for a rung of this answer: memory ran out, or it isn't right, and the first of its clauses that fails is told
abbrev pub IsRefusedAnswer : Instance → Certificate → Refusal → Type 0
IsRefusedAnswer instance answer refusal = (refusal ≡ out_of_memory)
    ⊎ ((reason : Reason) × (first : ℕ) × (second : ℕ) × (refusal ≡ refusals.Denied (denials.No reason first second))
    × (IsRight instance answer → ⊥) × (failure_of instance answer ≡ Some (failure_at reason first second)))

-- why there is no witness for a rung of the certificate in a file
abbrev pub HasNoWitness : Instance → ℕ → Option (List ℕ) → ℕ → ℕ → Refusal → Type 0
HasNoWitness instance k held before now refusal =
    ((why : NoRung) × (refusal ≡ refusal_of_no_rung why) × HasNoRung instance k held before now why)
    ⊎ ((reason : Reason) × (first : ℕ) × (second : ℕ) × (refusal ≡ refusals.Denied (denials.No reason first second))
    × IfSome held (λ bytes. IsWrongRung instance k bytes reason first second))

-- why the witness in a file doesn't show rung k of an answer
abbrev pub IsUnshown : Instance → Certificate → ℕ → Option (List ℕ) → ℕ → ℕ → Unshown → Type 0
IsUnshown instance answer k held before now (unshown.Unread why) = IsUnread held witness_limit before now why
IsUnshown instance answer k held before now (unshown.Fault kind number) =
    IfSome held (λ bytes. IsFaultyWitness instance answer k bytes (kind, number))
IsUnshown instance answer k held before now (unshown.Part part) = IfSome held (λ bytes. IsNotShowing instance answer k bytes part)

-- the certificate has an answer of which this rung can be witnessed, where it is told, and the witness in the other file doesn't show it
pub record IsUnshownRung (held : List ℕ → Option (List ℕ)) (instance : Instance) (k : ℕ) (certificate shown : List ℕ)
    (before now : List ℕ → ℕ) (why : Unshown) : Type 0 where
  pub answer : Certificate
  pub of_rung : IfSome (held certificate) (λ bytes. IsRungAnswer instance k bytes answer)
  pub witnessed : is_witnessed_pair instance ≡ true
  pub unshown : IsUnshown instance answer k (held shown) (before shown) (now shown) why

-- why the file of the second name doesn't show a rung of the certificate in that of the first: with the counts of the shelf's faults before
-- and after
abbrev pub IsUnverified : (List ℕ → Option (List ℕ)) → Instance → ℕ → List ℕ → List ℕ → (List ℕ → ℕ) → (List ℕ → ℕ) → Refusal → Type 0
IsUnverified held instance k certificate shown before now refusal =
    ((why : NoRung) × (refusal ≡ refusal_of_no_rung why)
    × HasNoRung instance k (held certificate) (before certificate) (now certificate) why)
    ⊎ ((why : Unshown) × (refusal ≡ refusal_of_unshown why) × IsUnshownRung held instance k certificate shown before now why)
