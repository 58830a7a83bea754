-- The number and the name of each kind of fault.
use Rattle.std.specs.Prelude.{ℕ, List, codes}
use Rattle.mat_cert.specs.declared.refusal.CertKind.{CertKind}
use Rattle.mat_cert.specs.declared.refusal.CertKind.TheVariants as kinds

-- the number by which a note tells the kind
abbrev pub kind_number : CertKind → ℕ
kind_number kinds.BadByte = 1
kind_number kinds.UnknownWord = 2
kind_number kinds.NumberSpelling = 3
kind_number kinds.NumberRange = 4
kind_number kinds.NotRising = 5
kind_number kinds.WrongCount = 6
kind_number kinds.EndsEarly = 7
kind_number kinds.AfterEnd = 8

-- the name by which a note tells the kind
abbrev pub kind_name : CertKind → List ℕ
kind_name kinds.BadByte = codes "BadByte"
kind_name kinds.UnknownWord = codes "UnknownWord"
kind_name kinds.NumberSpelling = codes "NumberSpelling"
kind_name kinds.NumberRange = codes "NumberRange"
kind_name kinds.NotRising = codes "NotRising"
kind_name kinds.WrongCount = codes "WrongCount"
kind_name kinds.EndsEarly = codes "EndsEarly"
kind_name kinds.AfterEnd = codes "AfterEnd"
