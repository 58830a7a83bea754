-- Reading a certificate: the answer that a text spells, or its first fault. Each function takes what is left of the text or of a line, and
-- the order of its lines is the order in which faults are looked for.
use Rattle.std.specs.Prelude.{ℕ, zero, suc, ◌==◌, nat_lt, pos, if◌then◌else◌}
use Rattle.std.specs.Prelude.{List, [], ◌∷◌, length, codes, bytes_eq, Result, Ok, Err}
use Rattle.mat_sets.specs.declared.weight.Weight.{Weight}
use Rattle.mat_words.specs.Cursors.{WordsLeft, LinesLeft}
use Rattle.mat_words.specs.Steps.{◌>>=◌, repeat_at}
use Rattle.mat_words.specs.Lines.{lines_of}
use Rattle.mat_cert.specs.declared.answer.PlainRung.{PlainRung}
use Rattle.mat_cert.specs.declared.answer.PricedRung.{PricedRung}
use Rattle.mat_cert.specs.declared.refusal.CertKind.TheVariants as kinds
use Rattle.mat_cert.specs.Faults.{Fault}
use Rattle.mat_sets.specs.Limits.{most_vertices}
use Rattle.mat_cert.specs.LineReading.{word_at, has_words, number_at, size_at, weight_at, keyed_at, counted_at, version_at, set_at, option_at}
use Rattle.mat_cert.specs.LineReading.{sets_at, counted_set_at, part_at, level_at, end_at, closed_at}
use Rattle.mat_cert.specs.HeaderReading.{count_at, ladder_header_at, union_header_at, never_header_at, trees_header_at, classes_header_at}
use Rattle.mat_cert.specs.HeaderReading.{entered_header_at, rainbow_header_at, assign_header_at}
use Rattle.mat_cert.specs.Certificates.{Certificate, intersect, best, union_of, pack_any, pack, cover_never, cover, trees, trees_none}
use Rattle.mat_cert.specs.Certificates.{arbor, unreached, disjoint, disjoint_none, rainbow, assign, is_short_of_tree}

-- ---- rungs

-- the first line of rung k, with its weight
unfoldable pub rung_at : ℕ → LinesLeft → Result (Weight × LinesLeft) Fault
rung_at k p = do
  line ← counted_at (codes "rung") 2 p
  number ← number_at (pos k) (pos k) line.0
  weight ← weight_at number.1
  Ok (weight.0, line.1)

-- rung k of n elements without a split
unfoldable pub plain_rung_at : ℕ → ℕ → LinesLeft → Result (PlainRung × LinesLeft) Fault
plain_rung_at n k p = do
  weight ← rung_at k p
  set ← counted_set_at n k weight.1
  Ok (record { weight = weight.0; set = set.0 }, set.1)

-- rung k of n elements with a split
unfoldable pub priced_rung_at : ℕ → ℕ → LinesLeft → Result (PricedRung × LinesLeft) Fault
priced_rung_at n k p = do
  weight ← rung_at k p
  set ← counted_set_at n k weight.1
  first ← part_at (codes "first") n set.1
  second ← part_at (codes "second") n first.1
  Ok (record { weight = weight.0; set = set.0; first = first.0; second = second.0 }, second.1)

-- as many rungs, of which the first is rung k
unfoldable pub rungs_at : {R : Type 0} → (ℕ → LinesLeft → Result (R × LinesLeft) Fault) → ℕ → ℕ → LinesLeft → Result
    (List R × LinesLeft) Fault
rungs_at reader k zero p = Ok ([], p)
rungs_at reader k (suc many) p = do
  first ← reader k p
  others ← rungs_at reader (suc k) many first.1
  Ok (first.0 ∷ others.0, others.1)

-- the rungs 0 to `last` of a ladder on n elements, with its cut
unfoldable pub ladder_at : ℕ → ℕ → LinesLeft → Result (List PricedRung × List ℕ × LinesLeft) Fault
ladder_at n last lines = do
  rungs ← rungs_at (priced_rung_at n) 0 (suc last) lines
  cut ← set_at (codes "cut") n rungs.1
  Ok (rungs.0, cut.0, cut.1)

-- ---- answers, each from the words behind its command on

-- `intersect`
unfoldable pub intersect_at : WordsLeft → LinesLeft → Result (Certificate × LinesLeft) Fault
intersect_at words lines = do
  header ← ladder_header_at words
  ladder ← ladder_at header.0 header.1 lines
  Ok (intersect header.0 ladder.0 ladder.1, ladder.2)

-- `best`
unfoldable pub best_at : WordsLeft → LinesLeft → Result (Certificate × LinesLeft) Fault
best_at words lines = do
  header ← ladder_header_at words
  rungs ← rungs_at (plain_rung_at header.0) 0 (suc header.1) lines
  Ok (best header.0 rungs.0, rungs.1)

-- `union`
unfoldable pub union_at : WordsLeft → LinesLeft → Result (Certificate × LinesLeft) Fault
union_at words lines = do
  header ← union_header_at words
  parts ← sets_at (codes "part") header.0 header.1 lines
  levels ← repeat_at (level_at header.0) header.2 parts.1
  Ok (union_of header.0 header.3 parts.0 levels.0, levels.1)

-- `pack` of n elements with a number of bases
unfoldable pub bases_at : ℕ → WordsLeft → LinesLeft → Result (Certificate × LinesLeft) Fault
bases_at n words lines = do
  many ← size_at 0 n words
  bases ← sets_at (codes "base") n many.0 lines
  cut ← set_at (codes "cut") n bases.1
  Ok (pack n bases.0 cut.0, cut.1)

-- `pack`: with `any` or with a number of bases
unfoldable pub pack_at : WordsLeft → LinesLeft → Result (Certificate × LinesLeft) Fault
pack_at words lines = do
  counted ← has_words 2 words
  count ← count_at words
  word ← word_at count.1
  if bytes_eq word.0 (codes "any") then Ok (pack_any count.0, lines) else bases_at count.0 count.1 lines

-- `cover` that says `never`
unfoldable pub never_at : WordsLeft → LinesLeft → Result (Certificate × LinesLeft) Fault
never_at words lines = do
  header ← never_header_at words
  Ok (cover_never header.0 header.1, lines)

-- `cover` with sets
unfoldable pub covering_at : WordsLeft → LinesLeft → Result (Certificate × LinesLeft) Fault
covering_at words lines = do
  header ← ladder_header_at words
  sets ← sets_at (codes "part") header.0 header.1 lines
  cut ← option_at (codes "cut") header.0 (nat_lt 0 header.1) sets.1
  Ok (cover header.0 sets.0 cut.0, cut.1)

-- `cover`: with three words or with two
unfoldable pub cover_at : WordsLeft → LinesLeft → Result (Certificate × LinesLeft) Fault
cover_at words lines = if length words.words == 3 then never_at words lines else covering_at words lines

-- trees that are there, of edges or of arcs
unfoldable pub found_trees_at : WordsLeft → LinesLeft → Result (ℕ × List (List ℕ) × LinesLeft) Fault
found_trees_at words lines = do
  header ← trees_header_at words
  sets ← sets_at (codes "tree") header.0 header.1 lines
  Ok (header.0, sets.0, sets.1)

-- `trees` that says `none`
unfoldable pub classes_at : WordsLeft → LinesLeft → Result (Certificate × LinesLeft) Fault
classes_at words lines = do
  header ← classes_header_at words
  classes ← sets_at (codes "class") header.2 header.3 lines
  Ok (trees_none header.0 header.1 header.2 classes.0, classes.1)

-- `trees`: with five words or with two
unfoldable pub trees_at : WordsLeft → LinesLeft → Result (Certificate × LinesLeft) Fault
trees_at words lines = if length words.words == 5 then classes_at words lines else
    (found_trees_at words lines >>= λ found. Ok (trees found.0 found.1, found.2))

-- `arborescence` of n arcs that says `tree`
unfoldable pub arbor_at : ℕ → WordsLeft → LinesLeft → Result (Certificate × LinesLeft) Fault
arbor_at n words lines = do
  cost ← weight_at words
  arcs ← set_at (codes "set") n lines
  first ← part_at (codes "first") n arcs.1
  second ← part_at (codes "second") n first.1
  Ok (arbor n cost.0 arcs.0 first.0 second.0, second.1)

-- `arborescence` of n arcs that says `unreached`
unfoldable pub unreached_at : ℕ → WordsLeft → LinesLeft → Result (Certificate × LinesLeft) Fault
unreached_at n words lines = do
  vertices ← size_at 1 most_vertices words
  set ← set_at (codes "vertices") vertices.0 lines
  Ok (unreached n vertices.0 set.0, set.1)

-- `arborescence`: with `tree` or with `unreached`
unfoldable pub arborescence_at : WordsLeft → LinesLeft → Result (Certificate × LinesLeft) Fault
arborescence_at words lines = do
  counted ← has_words 3 words
  count ← count_at words
  word ← word_at count.1
  if bytes_eq word.0 (codes "tree") then arbor_at count.0 word.1 lines else
      (if bytes_eq word.0 (codes "unreached") then unreached_at count.0 word.1 lines else Err (kinds.UnknownWord, words.line))

-- `disjoint` that says `none`
unfoldable pub entered_at : WordsLeft → LinesLeft → Result (Certificate × LinesLeft) Fault
entered_at words lines = do
  header ← entered_header_at words
  set ← set_at (codes "vertices") header.2 lines
  Ok (disjoint_none header.0 header.1 header.2 set.0, set.1)

-- `disjoint`: with four words or with two
unfoldable pub disjoint_at : WordsLeft → LinesLeft → Result (Certificate × LinesLeft) Fault
disjoint_at words lines = if length words.words == 4 then entered_at words lines else
    (found_trees_at words lines >>= λ found. Ok (disjoint found.0 found.1, found.2))

-- `rainbow`
unfoldable pub rainbow_at : WordsLeft → LinesLeft → Result (Certificate × LinesLeft) Fault
rainbow_at words lines = do
  header ← rainbow_header_at words
  ladder ← ladder_at header.0 header.1 lines
  missing ← option_at (codes "colours") header.3 (is_short_of_tree header.1 header.2) ladder.2
  Ok (rainbow header.0 header.2 header.3 ladder.0 ladder.1 missing.0, missing.1)

-- `assign`
unfoldable pub assign_at : WordsLeft → LinesLeft → Result (Certificate × LinesLeft) Fault
assign_at words lines = do
  header ← assign_header_at words
  ladder ← ladder_at header.0 header.1 lines
  Ok (assign header.0 header.2 header.3 ladder.0 ladder.1, ladder.2)

-- ---- whole certificates

-- the answer of the command that this word names, from the words behind it on
unfoldable pub answer_of_command : List ℕ → WordsLeft → LinesLeft → Result (Certificate × LinesLeft) Fault
answer_of_command command words lines =
    if bytes_eq command (codes "intersect") then intersect_at words lines else
    (if bytes_eq command (codes "best") then best_at words lines else
    (if bytes_eq command (codes "union") then union_at words lines else
    (if bytes_eq command (codes "pack") then pack_at words lines else
    (if bytes_eq command (codes "cover") then cover_at words lines else
    (if bytes_eq command (codes "trees") then trees_at words lines else
    (if bytes_eq command (codes "arborescence") then arborescence_at words lines else
    (if bytes_eq command (codes "disjoint") then disjoint_at words lines else
    (if bytes_eq command (codes "rainbow") then rainbow_at words lines else
    (if bytes_eq command (codes "assign") then assign_at words lines else Err (kinds.UnknownWord, words.line))))))))))

-- the answer from its header line on
unfoldable pub answer_at : LinesLeft → Result (Certificate × LinesLeft) Fault
answer_at p = do
  line ← keyed_at (codes "answer") p
  command ← word_at line.0
  answer_of_command command.0 command.1 line.1

-- the certificate that the lines spell, or their first fault
unfoldable pub certificate_at : LinesLeft → Result Certificate Fault
certificate_at p = do
  lines ← version_at p
  answer ← answer_at lines
  rest ← end_at answer.1
  closed ← closed_at rest
  Ok answer.0

-- the certificate that a text spells, or its first fault
abbrev pub read_of : List ℕ → Result Certificate Fault
read_of text = certificate_at (record { line = 1; lines = lines_of text })
