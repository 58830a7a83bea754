-- The number and the name of each kind of fault.
use Rattle.std.specs.Prelude.{ℕ, List, codes}
use Rattle.mat_desc.specs.declared.refusal.DescKind.{DescKind}
use Rattle.mat_desc.specs.declared.refusal.DescKind.TheVariants as kinds

-- the number by which a note tells the kind
abbrev pub kind_number : DescKind → ℕ
kind_number kinds.BadByte = 1
kind_number kinds.Version = 2
kind_number kinds.UnknownWord = 3
kind_number kinds.NumberSpelling = 4
kind_number kinds.NumberRange = 5
kind_number kinds.TooFewWords = 6
kind_number kinds.TooManyWords = 7
kind_number kinds.Crossing = 8
kind_number kinds.Repeated = 9
kind_number kinds.TooDeep = 10
kind_number kinds.TooManyLines = 11
kind_number kinds.EndsEarly = 12
kind_number kinds.UnknownName = 13
kind_number kinds.NameSpelling = 14

-- the name by which a note tells the kind
abbrev pub kind_name : DescKind → List ℕ
kind_name kinds.BadByte = codes "BadByte"
kind_name kinds.Version = codes "Version"
kind_name kinds.UnknownWord = codes "UnknownWord"
kind_name kinds.NumberSpelling = codes "NumberSpelling"
kind_name kinds.NumberRange = codes "NumberRange"
kind_name kinds.TooFewWords = codes "TooFewWords"
kind_name kinds.TooManyWords = codes "TooManyWords"
kind_name kinds.Crossing = codes "Crossing"
kind_name kinds.Repeated = codes "Repeated"
kind_name kinds.TooDeep = codes "TooDeep"
kind_name kinds.TooManyLines = codes "TooManyLines"
kind_name kinds.EndsEarly = codes "EndsEarly"
kind_name kinds.UnknownName = codes "UnknownName"
kind_name kinds.NameSpelling = codes "NameSpelling"
