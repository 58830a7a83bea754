-- The notes of refusals.
use Rattle.std.specs.Prelude.{ℕ, ◌≤◌, List, [], ◌∷◌, ◌++◌, Option, codes, pos}
use Rattle.mat_shelf.specs.Faults.{Rose}
use Rattle.mat_shelf.specs.Writing.{Appended, AppendedPrefix}
use Rattle.mat_words.specs.Numbers.{numeral}
use Rattle.mat_desc.specs.Kinds.{kind_number, kind_name}
use Rattle.mat_cert.specs.Kinds as cert_kinds
use Rattle.mat_check.specs.Reasons.{reason_word}
use Rattle.mat_judge.specs.declared.reading.Unread.{Unread}
use Rattle.mat_judge.specs.declared.reading.Unread.TheVariants as unread
use Rattle.mat_judge.specs.declared.refusal.Denial.{Denial}
use Rattle.mat_judge.specs.declared.refusal.Denial.TheVariants as denials
use Rattle.mat_judge.specs.declared.refusal.Refusal.{Refusal}
use Rattle.mat_judge.specs.declared.refusal.Refusal.TheVariants as refusals
use Rattle.mat_judge.specs.Texts.{joined}

-- the note of a fault of a file: what the file is, the number and the name of the fault's kind, and the number of its line
abbrev pub fault_note : List ℕ → ℕ → List ℕ → ℕ → List ℕ
fault_note file number name line =
    joined (file ∷ numeral (pos number) ∷ codes " " ∷ name ∷ codes " line " ∷ numeral (pos line) ∷ (10 ∷ []) ∷ [])

-- the note of what the files of a call say against it
abbrev pub note_of_denial : Denial → List ℕ
note_of_denial (denials.No reason first second) =
    joined (codes "no " ∷ reason_word reason ∷ codes " " ∷ numeral (pos first) ∷ codes " " ∷ numeral (pos second) ∷ (10 ∷ []) ∷ [])
note_of_denial (denials.NotShown part) = joined (codes "no witness " ∷ numeral (pos part) ∷ codes " 0" ∷ (10 ∷ []) ∷ [])
note_of_denial (denials.BadDescription kind line) =
    fault_note (codes "refused: description ") (kind_number kind) (kind_name kind) line
note_of_denial (denials.BadCertificate kind line) =
    fault_note (codes "refused: certificate ") (cert_kinds.kind_number kind) (cert_kinds.kind_name kind) line
note_of_denial denials.WrongShape = codes "refused: wrong shape" ++ 10 ∷ []
note_of_denial denials.Unwitnessed = codes "refused: unwitnessed" ++ 10 ∷ []
note_of_denial (denials.BadWitness kind line) =
    fault_note (codes "refused: witness ") (cert_kinds.kind_number kind) (cert_kinds.kind_name kind) line
note_of_denial denials.BadCost = codes "refused: bad cost" ++ 10 ∷ []
note_of_denial (denials.BadList line) = joined (codes "refused: list line " ∷ numeral (pos line) ∷ (10 ∷ []) ∷ [])

-- the note of a file that was not read, or of want of memory
abbrev pub note_of_unread : Unread → List ℕ
note_of_unread unread.Fault = codes "refused: read fault" ++ 10 ∷ []
note_of_unread unread.TooLong = codes "refused: too long" ++ 10 ∷ []
note_of_unread unread.Memory = codes "refused: memory" ++ 10 ∷ []

-- the note of a refusal
abbrev pub note_of : Refusal → List ℕ
note_of refusals.Usage = codes "refused: usage" ++ 10 ∷ []
note_of refusals.WriteFault = codes "refused: write fault" ++ 10 ∷ []
note_of (refusals.Unread why) = note_of_unread why
note_of (refusals.Denied denial) = note_of_denial denial

-- a prefix of a note was appended, and all of it where the count of faults did not rise
pub record IsNoted (note : List ℕ) (old : Option (List ℕ)) (before : ℕ) (new : Option (List ℕ)) (now : ℕ) : Type 0 where
  pub grows : before ≤ now
  pub prefix : AppendedPrefix old note new
  pub whole : ¬ (Rose before now) → Appended old note new
