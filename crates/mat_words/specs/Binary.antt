-- Words that are binary numbers, the highest digit first.
use Rattle.std.specs.Prelude.{ℕ, zero, suc, ◌+◌, ◌-◌, ◌*◌, Bool, true, ◌&&◌, ◌||◌, ◌==◌, if◌then◌else◌, List, [], ◌∷◌, length}
use Rattle.std.specs.Prelude.{Result, Ok, Err}
use Rattle.std.specs.Int.{bit_at}
use Rattle.mat_words.specs.declared.numbers.NumberFault.{NumberFault}
use Rattle.mat_words.specs.declared.numbers.NumberFault.TheVariants.{Spelling}

-- the last binary digits of a number, as many as are asked for
abbrev pub binary : ℕ → ℕ → List ℕ
binary zero z = []
binary (suc digits) z = (48 + bit_at z digits) ∷ binary digits z

-- whether each byte is a binary digit
abbrev pub is_binary : List ℕ → Bool
is_binary [] = true
is_binary (b ∷ word) = (b == 48 || b == 49) && is_binary word

-- the number that has the digits of z and behind them those of the word
abbrev pub binary_value : ℕ → List ℕ → ℕ
binary_value z [] = z
binary_value z (b ∷ word) = binary_value (2 * z + (b - 48)) word

-- what a word says where a number of so many binary digits is needed; it has no range, since its digits are as many
abbrev pub binary_in : ℕ → List ℕ → Result ℕ NumberFault
binary_in digits word = if (length word == digits) && is_binary word then Ok (binary_value 0 word) else Err Spelling
