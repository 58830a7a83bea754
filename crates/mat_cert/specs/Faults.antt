-- Reading a certificate, which may end at a fault.
use Rattle.std.specs.Prelude.{ℕ, Result}
use Rattle.mat_words.specs.declared.numbers.NumberFault.TheVariants.{Spelling, Range}
use Rattle.mat_words.specs.declared.refusal.ReadingFault.{ReadingFault}
use Rattle.mat_words.specs.declared.refusal.ReadingFault.TheVariants as faults
use Rattle.mat_words.specs.declared.refusal.Refusal.{Refusal}
use Rattle.mat_words.specs.Reading as any_text
use Rattle.mat_words.specs.Reading.{told_by, refusal_by}
use Rattle.mat_cert.specs.declared.refusal.CertKind.{CertKind}
use Rattle.mat_cert.specs.declared.refusal.CertKind.TheVariants as kinds

-- the kind of a fault, and the number of its line
abbrev pub Fault : Type 0
Fault = CertKind × ℕ

-- why a text is no certificate
abbrev pub CertRefusal : Type 0
CertRefusal = Refusal CertKind

-- ---- faults of any text

-- the kind of a fault that any text may have, in a certificate
abbrev pub kind_of : ReadingFault → CertKind
kind_of faults.EndsEarly = kinds.EndsEarly
kind_of faults.BadByte = kinds.BadByte
kind_of faults.NoWord = kinds.WrongCount
kind_of faults.UnknownWord = kinds.UnknownWord
kind_of (faults.Number Spelling) = kinds.NumberSpelling
kind_of (faults.Number Range) = kinds.NumberRange

-- what is read of any text, as what is read of a certificate: its faults told by their kinds
abbrev pub told : {A : Type 0} → Result A any_text.Fault → Result A Fault
told reading = told_by kind_of reading

-- the refusal of a certificate where the reading of a text was refused
abbrev pub refusal_of : Refusal ReadingFault → CertRefusal
refusal_of refusal = refusal_by kind_of refusal
