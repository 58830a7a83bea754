-- Reading a text: what its next line, and the next word of a line, are taken for, or the fault at which this ends. Each function takes what
-- is left of the text or of a line, and gives with what it reads what is left behind it.
use Rattle.std.specs.Prelude.{◌≡◌, ℕ, ◌+◌, ◌==◌, ℤ, pos, ◌-ℤ◌, nat_abs, Bool, false, not, ◌&&◌, if◌then◌else◌}
use Rattle.std.specs.Prelude.{List, [], ◌∷◌, length, bytes_eq, Result, Ok, Err}
use Rattle.mat_sets.specs.declared.weight.Weight.{Weight}
use Rattle.mat_words.specs.Cursors.{WordsLeft, LinesLeft}
use Rattle.mat_words.specs.Steps.{◌>>=◌, repeat_at}
use Rattle.mat_words.specs.Words.{words_of, is_well_spaced}
use Rattle.mat_words.specs.Numbers.{number_in}
use Rattle.mat_words.specs.Weights.{weight_in}
use Rattle.mat_words.specs.Binary.{binary_in}
use Rattle.mat_words.specs.declared.numbers.NumberFault.{NumberFault}
use Rattle.mat_words.specs.declared.refusal.ReadingFault.{ReadingFault}
use Rattle.mat_words.specs.declared.refusal.ReadingFault.TheVariants as faults
use Rattle.mat_words.specs.declared.refusal.Refusal.{Refusal}
use Rattle.mat_words.specs.declared.refusal.Refusal.TheVariants as refusals

-- what is wrong with a line, and its number
abbrev pub Fault : Type 0
Fault = ReadingFault × ℕ

-- a refusal is the fault at which the reading ended, or want of memory, which any reading may meet
abbrev pub Fails : {K Y : Type 0} → Refusal K → Result Y (K × ℕ) → Type 0
Fails refusals.Memory reading = Unit {0}
Fails (refusals.Fault kind line) reading = reading ≡ Err (kind, line)

-- what a call returned, as seen by `view`, is what the reading gives, unless memory ran out
abbrev pub Gives : {K X Y : Type 0} → (X → Y) → Result X (Refusal K) → Result Y (K × ℕ) → Type 0
Gives view (Ok x) reading = reading ≡ Ok (view x)
Gives view (Err refusal) reading = Fails refusal reading

-- what is read, its fault told by another kind
abbrev pub told_by : {K L A : Type 0} → (K → L) → Result A (K × ℕ) → Result A (L × ℕ)
told_by kind_of (Ok x) = Ok x
told_by kind_of (Err fault) = Err (kind_of fault.0, fault.1)

-- a refusal, its fault told by another kind
abbrev pub refusal_by : {K L : Type 0} → (K → L) → Refusal K → Refusal L
refusal_by kind_of refusals.Memory = refusals.Memory
refusal_by kind_of (refusals.Fault kind line) = refusals.Fault (kind_of kind) line

-- the call did not end for want of memory, which is so of each call that takes no memory
abbrev pub IsTold : {K X : Type 0} → Result X (Refusal K) → Type 0
IsTold (Ok x) = Unit {0}
IsTold (Err refusals.Memory) = ⊥
IsTold (Err (refusals.Fault kind line)) = Unit {0}

-- ---- lines

-- the line with number n, which is needed, has to be ended and well spaced and to have words
abbrev pub line_from : ℕ → List (List ℕ) → Result (WordsLeft × LinesLeft) Fault
line_from n [] = Err (faults.EndsEarly, n)
line_from n (line ∷ lines) =
    if length lines == 0 then Err (faults.EndsEarly, n) else
    (if not (is_well_spaced line) then Err (faults.BadByte, n) else
    (if length line == 0 then Err (faults.NoWord, n) else
    Ok (record { line = n; words = words_of line }, record { line = n + 1; lines = lines })))

-- the words of the next line, and the lines behind it
unfoldable pub line_at : LinesLeft → Result (WordsLeft × LinesLeft) Fault
line_at p = line_from p.line p.lines

-- whether no byte is left: no line, and nothing behind the last
abbrev pub is_closed : List (List ℕ) → Bool
is_closed [] = false
is_closed (rest ∷ lines) = (length rest == 0) && (length lines == 0)

-- ---- the words of a line

-- the next word of line n, which is needed
abbrev pub word_from : ℕ → List (List ℕ) → Result (List ℕ × WordsLeft) Fault
word_from n [] = Err (faults.NoWord, n)
word_from n (word ∷ words) = Ok (word, record { line = n; words = words })

-- the next word, and the words behind it
unfoldable pub word_at : WordsLeft → Result (List ℕ × WordsLeft) Fault
word_at p = word_from p.line p.words

-- what a word says where a number or a weight is needed, with the words behind it; a word that says none is a fault of their line
abbrev pub item_as : {A : Type 0} → WordsLeft → Result A NumberFault → Result (A × WordsLeft) Fault
item_as rest (Ok x) = Ok (x, rest)
item_as rest (Err fault) = Err (faults.Number fault, rest.line)

-- the next word as what this reader of words takes it for
abbrev pub item_at : {A : Type 0} → (List ℕ → Result A NumberFault) → WordsLeft → Result (A × WordsLeft) Fault
item_at reader p = word_at p >>= λ word. item_as word.1 (reader word.0)

-- the next word as a number in low..high
unfoldable pub number_at : ℤ → ℤ → WordsLeft → Result (ℤ × WordsLeft) Fault
number_at low high p = item_at (number_in low high) p

-- the next word as a number in low..most, which are from 0 on
unfoldable pub size_at : ℕ → ℕ → WordsLeft → Result (ℕ × WordsLeft) Fault
size_at low most p = do
  number ← number_at (pos low) (pos most) p
  Ok (nat_abs number.0, number.1)

-- the next word as a number from 0 on below the bound
unfoldable pub below_at : ℕ → WordsLeft → Result (ℕ × WordsLeft) Fault
below_at bound p = do
  number ← number_at (pos 0) (pos bound -ℤ pos 1) p
  Ok (nat_abs number.0, number.1)

-- the next word as a number of so many binary digits
unfoldable pub binary_at : ℕ → WordsLeft → Result (ℕ × WordsLeft) Fault
binary_at digits p = item_at (binary_in digits) p

-- the next word as a weight of which each number is in low..high
unfoldable pub weight_at : ℤ → ℤ → WordsLeft → Result (Weight × WordsLeft) Fault
weight_at low high p = item_at (weight_in low high) p

-- the next words as that many weights of which each number is in low..high
unfoldable pub weights_at : ℤ → ℤ → ℕ → WordsLeft → Result (List Weight × WordsLeft) Fault
weights_at low high count p = repeat_at (weight_at low high) count p

-- ---- a line of a kind

-- a line that begins with this word: the words behind it, and the lines behind it
unfoldable pub keyed_at : List ℕ → LinesLeft → Result (WordsLeft × LinesLeft) Fault
keyed_at key p = do
  line ← line_at p
  word ← word_at line.0
  if bytes_eq word.0 key then Ok (word.1, line.1) else Err (faults.UnknownWord, p.line)
