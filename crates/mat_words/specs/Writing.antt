-- Words behind spaces, and lines that begin with a keyword.
use Rattle.std.specs.Prelude.{ℕ, ℤ, List, [], ◌∷◌, map, codes}
use Rattle.std.specs.List.{flat_map}
use Rattle.mat_words.specs.Numbers.{numeral, numerals}
use Rattle.mat_sets.specs.declared.weight.Weight.{Weight}
use Rattle.mat_words.specs.Lines.{Line}
use Rattle.mat_words.specs.Weights.{weight_word}
use Rattle.mat_words.specs.declared.text_word.TextWord.{TextWord}
use Rattle.mat_words.specs.declared.text_word.TextWord.TheVariants as words

-- the word itself
abbrev pub text_word : TextWord → List ℕ
text_word (words.Fixed bytes) = bytes.now
text_word (words.Number number) = numeral number
text_word (words.Weight weight) = weight_word weight

-- the bytes of words, each behind a space
abbrev pub spaced : Line → List ℕ
spaced words = flat_map (λ word. 32 ∷ word) words

-- a line of a keyword and numbers
abbrev pub numbers_line : List ℕ → List ℤ → Line
numbers_line keyword numbers = keyword ∷ map numeral numbers

-- a line of a keyword and the members of a list, numbers from 0 on
abbrev pub members_line : List ℕ → List ℕ → Line
members_line keyword members = keyword ∷ numerals members

-- a line of a keyword and weights
abbrev pub weights_line : List ℕ → List Weight → Line
weights_line keyword weights = keyword ∷ map weight_word weights

-- the line that ends a text
abbrev pub end_line : Line
end_line = codes "end" ∷ []
