-- Reading that may end at a fault.
use Rattle.std.specs.Prelude.{ℕ, Result}
use Rattle.mat_words.specs.Reading as reading
use Rattle.mat_words.specs.Reading.{told_by, refusal_by}
use Rattle.mat_words.specs.declared.numbers.NumberFault.TheVariants as numbers
use Rattle.mat_words.specs.declared.refusal.ReadingFault.{ReadingFault}
use Rattle.mat_words.specs.declared.refusal.ReadingFault.TheVariants as faults
use Rattle.mat_words.specs.declared.refusal.Refusal.{Refusal}
use Rattle.mat_desc.specs.declared.refusal.DescKind.{DescKind}
use Rattle.mat_desc.specs.declared.refusal.DescKind.TheVariants as kinds

-- the kind of a fault, and the number of its line
abbrev pub Fault : Type 0
Fault = DescKind × ℕ

-- why a text is no description
abbrev pub DescRefusal : Type 0
DescRefusal = Refusal DescKind

-- the kind of a fault in reading lines, words, numbers and weights
abbrev pub kind_of : ReadingFault → DescKind
kind_of faults.EndsEarly = kinds.EndsEarly
kind_of faults.BadByte = kinds.BadByte
kind_of faults.NoWord = kinds.TooFewWords
kind_of faults.UnknownWord = kinds.UnknownWord
kind_of (faults.Number numbers.Spelling) = kinds.NumberSpelling
kind_of (faults.Number numbers.Range) = kinds.NumberRange

-- what such a reading tells of a description: what was read, or the fault under its kind
abbrev pub told : {A : Type 0} → Result A reading.Fault → Result A Fault
told read = told_by kind_of read

-- the refusal of such a reading, as one of a description
abbrev pub refusal_of : Refusal ReadingFault → DescRefusal
refusal_of refusal = refusal_by kind_of refusal
