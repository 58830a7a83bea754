-- Weights as words.
use Rattle.std.specs.Prelude.{ℕ, Bool, ◌&&◌, if◌then◌else◌, List, [], ◌∷◌, ◌++◌, Option, Some, None, Result, Ok, Err, ℤ, pos}
use Rattle.std.specs.List.{slice_split}
use Rattle.std.specs.Ordering.{int_eq}
use Rattle.mat_sets.specs.declared.weight.Weight.{Weight}
use Rattle.mat_words.specs.Numbers.{numeral, number_of, IsBetween, is_between, ranged}
use Rattle.mat_words.specs.Words.{is_byte}
use Rattle.mat_words.specs.declared.numbers.NumberFault.{NumberFault}
use Rattle.mat_words.specs.declared.numbers.NumberFault.TheVariants.{Spelling, Range}

-- the one spelling of a weight: its main where its tie is 0, and otherwise its main and its tie with a `:` between them
abbrev pub weight_word : Weight → List ℕ
weight_word w = if int_eq w.tie (pos 0) then numeral w.main else numeral w.main ++ 58 ∷ numeral w.tie

-- the weight of a number alone, whose tie is 0
abbrev pub untied : Option ℤ → Option Weight
untied None = None
untied (Some main) = Some (record { main = main; tie = pos 0 })

-- the weight of two numbers, of which the second isn't 0
abbrev pub tied : Option ℤ → Option ℤ → Option Weight
tied None tie = None
tied (Some main) None = None
tied (Some main) (Some tie) = if int_eq tie (pos 0) then None else Some (record { main = main; tie = tie })

-- the weight that the parts of a word between `:` spell, if they spell one
abbrev pub weight_of_parts : List (List ℕ) → Option Weight
weight_of_parts [] = None
weight_of_parts (main ∷ []) = untied (number_of main)
weight_of_parts (main ∷ tie ∷ []) = tied (number_of main) (number_of tie)
weight_of_parts (main ∷ tie ∷ more ∷ parts) = None

-- The weight that a word spells, if it is a weight word: a number, or two numbers with a `:` between them, of which the second isn't 0.
abbrev pub weight_of_word : List ℕ → Option Weight
weight_of_word word = weight_of_parts (slice_split (is_byte 58) word)

-- both numbers of the weight are in low..high
abbrev pub IsWeightBetween : ℤ → ℤ → Weight → Type 0
IsWeightBetween low high w = IsBetween low high w.main × IsBetween low high w.tie

-- whether both numbers of the weight are in low..high
abbrev pub is_weight_between : ℤ → ℤ → Weight → Bool
is_weight_between low high w = is_between low high w.main && is_between low high w.tie

-- what a word says where a weight is needed of which each number is in low..high
abbrev pub weight_in : ℤ → ℤ → List ℕ → Result Weight NumberFault
weight_in low high word = ranged (is_weight_between low high) (weight_of_word word)

-- what two words say together, where a number in a range is needed at each: one that is misspelled comes before one outside the range
abbrev pub both_in : Result ℤ NumberFault → Result ℤ NumberFault → Result Weight NumberFault
both_in (Ok main) (Ok tie) = Ok (record { main = main; tie = tie })
both_in (Ok main) (Err fault) = Err fault
both_in (Err Spelling) tie = Err Spelling
both_in (Err Range) (Err Spelling) = Err Spelling
both_in (Err Range) (Err Range) = Err Range
both_in (Err Range) (Ok tie) = Err Range
