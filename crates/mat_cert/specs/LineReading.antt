-- Reading the lines of a certificate: what a line, or a word of it, is taken for, or its first fault. Each function takes what is left of the
-- text or of a line, and the order of its lines is the order in which faults are looked for.
use Rattle.std.specs.Prelude.{ℕ, suc, ◌==◌, nat_lt, ℤ, pos, neg_ℤ, Bool, true, false, if◌then◌else◌, Option, Some, None}
use Rattle.std.specs.Prelude.{List, [], ◌∷◌, length, codes, bytes_eq, Result, Ok, Err}
use Rattle.mat_sets.specs.declared.weight.Weight.{Weight}
use Rattle.mat_words.specs.Cursors.{WordsLeft, LinesLeft}
use Rattle.mat_words.specs.Steps.{◌>>=◌, repeat_at}
use Rattle.mat_words.specs.Reading as any_text
use Rattle.mat_cert.specs.declared.answer.LevelLine.{LevelLine}
use Rattle.mat_cert.specs.declared.refusal.CertKind.TheVariants as kinds
use Rattle.mat_cert.specs.Faults.{Fault, told}
use Rattle.mat_sets.specs.Limits.{largest_number}

-- ---- the words of a line

-- the next word, and the words behind it
abbrev pub word_at : WordsLeft → Result (List ℕ × WordsLeft) Fault
word_at p = told (any_text.word_at p)

-- the next word, which has to be this one, and the words behind it
unfoldable pub fixed_at : List ℕ → WordsLeft → Result WordsLeft Fault
fixed_at word p = do
  next ← word_at p
  if bytes_eq next.0 word then Ok next.1 else Err (kinds.UnknownWord, p.line)

-- exactly so many words have to be left
unfoldable pub has_words : ℕ → WordsLeft → Result (Unit {0}) Fault
has_words many p = if length p.words == many then Ok tt else Err (kinds.WrongCount, p.line)

-- the next word as a number in low..high
abbrev pub number_at : ℤ → ℤ → WordsLeft → Result (ℤ × WordsLeft) Fault
number_at low high p = told (any_text.number_at low high p)

-- the next word as a number in least..most
abbrev pub size_at : ℕ → ℕ → WordsLeft → Result (ℕ × WordsLeft) Fault
size_at least most p = told (any_text.size_at least most p)

-- the next word as a weight
abbrev pub weight_at : WordsLeft → Result (Weight × WordsLeft) Fault
weight_at p = told (any_text.weight_at (neg_ℤ (pos largest_number)) (pos largest_number) p)

-- the next words as that many weights
abbrev pub weights_at : ℕ → WordsLeft → Result (List Weight × WordsLeft) Fault
weights_at count p = told (any_text.weights_at (neg_ℤ (pos largest_number)) (pos largest_number) count p)

-- the next word as a number below the bound
abbrev pub below_at : ℕ → WordsLeft → Result (ℕ × WordsLeft) Fault
below_at bound p = told (any_text.below_at bound p)

-- the set of numbers below n that the words left of a line list in rising order, of which none is below `least`
unfoldable pub members_from : ℕ → ℕ → ℕ → List (List ℕ) → Result (List ℕ) Fault
members_from n line least [] = Ok []
members_from n line least (word ∷ words) = do
  member ← below_at n (record { line = line; words = word ∷ words })
  if nat_lt member.0 least then Err (kinds.NotRising, line) else
      (members_from n line (suc member.0) words >>= λ others. Ok (member.0 ∷ others))

-- ---- lines of a kind

-- a line that begins with this word: the words behind it, and the lines behind it
abbrev pub keyed_at : List ℕ → LinesLeft → Result (WordsLeft × LinesLeft) Fault
keyed_at key p = told (any_text.keyed_at key p)

-- a line of this word and so many others: the words behind it, and the lines behind the line
unfoldable pub counted_at : List ℕ → ℕ → LinesLeft → Result (WordsLeft × LinesLeft) Fault
counted_at key many p = do
  line ← keyed_at key p
  counted ← has_words many line.0
  Ok line

-- the first line, which names the version
unfoldable pub version_at : LinesLeft → Result LinesLeft Fault
version_at p = do
  line ← counted_at (codes "certificate") 1 p
  behind ← fixed_at (codes "1") line.0
  Ok line.1

-- a set of any length below n
unfoldable pub set_at : List ℕ → ℕ → LinesLeft → Result (List ℕ × LinesLeft) Fault
set_at key n p = do
  line ← keyed_at key p
  set ← members_from n line.0.line 0 line.0.words
  Ok (set, line.1)

-- a set of any length below n where it is needed, and no line where it isn't
unfoldable pub option_at : List ℕ → ℕ → Bool → LinesLeft → Result (Option (List ℕ) × LinesLeft) Fault
option_at key n false p = Ok (None, p)
option_at key n true p = do
  set ← set_at key n p
  Ok (Some set.0, set.1)

-- as many sets below n, each on a line of this word
abbrev pub sets_at : List ℕ → ℕ → ℕ → LinesLeft → Result (List (List ℕ) × LinesLeft) Fault
sets_at key n many p = repeat_at (set_at key n) many p

-- the set of k numbers below n that the words left of a line list in rising order
unfoldable pub all_members_at : ℕ → ℕ → WordsLeft → Result (List ℕ) Fault
all_members_at n k p = do
  counted ← has_words k p
  members_from n p.line 0 p.words

-- a set of k numbers below n
unfoldable pub counted_set_at : ℕ → ℕ → LinesLeft → Result (List ℕ × LinesLeft) Fault
counted_set_at n k p = do
  line ← counted_at (codes "set") k p
  set ← members_from n line.0.line 0 line.0.words
  Ok (set, line.1)

-- the n weights that the words left of a line are
unfoldable pub all_weights_at : ℕ → WordsLeft → Result (List Weight) Fault
all_weights_at n p = do
  counted ← has_words n p
  weights ← weights_at n p
  Ok weights.0

-- one part of a split of n weights
unfoldable pub part_at : List ℕ → ℕ → LinesLeft → Result (List Weight × LinesLeft) Fault
part_at key n p = do
  line ← counted_at key n p
  weights ← weights_at n line.0
  Ok (weights.0, line.1)

-- a level of n elements: a weight, and a set of any length
unfoldable pub level_at : ℕ → LinesLeft → Result (LevelLine × LinesLeft) Fault
level_at n p = do
  line ← keyed_at (codes "level") p
  weight ← weight_at line.0
  cut ← members_from n line.0.line 0 weight.1.words
  Ok (record { at = weight.0; cut = cut }, line.1)

-- the last line
unfoldable pub end_at : LinesLeft → Result LinesLeft Fault
end_at p = do
  line ← counted_at (codes "end") 0 p
  Ok line.1

-- the end of the text, behind the last line
unfoldable pub closed_at : LinesLeft → Result (Unit {0}) Fault
closed_at p = if any_text.is_closed p.lines then Ok tt else Err (kinds.AfterEnd, p.line)
