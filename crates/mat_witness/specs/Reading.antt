-- Reading a witness: the parts that a text spells, or its first fault. Each function takes what is left of the text or of a line, and the order
-- of its lines is the order in which faults are looked for.
use Rattle.std.specs.Prelude.{ℕ, ◌*◌, pos, List, [], ◌∷◌, length, codes, Result, Ok, Err}
use Rattle.mat_words.specs.Cursors.{WordsLeft, LinesLeft}
use Rattle.mat_words.specs.Lines.{lines_of}
use Rattle.mat_words.specs.Reading as any_text
use Rattle.mat_words.specs.Steps.{◌>>=◌, repeat_at}
use Rattle.mat_any.specs.Trees.{Tree, graphic, gammoid, gf2}
use Rattle.mat_problem.specs.Instances.{Instance, pair}
use Rattle.mat_cert.specs.Certificates.{Certificate, intersect}
use Rattle.mat_cert.specs.declared.refusal.CertKind.TheVariants as kinds
use Rattle.mat_cert.specs.Faults.{Fault, told}
use Rattle.mat_cert.specs.LineReading.{below_at, closed_at, counted_at, end_at, fixed_at, keyed_at, number_at, set_at, size_at}
use Rattle.mat_witness.specs.Kinds.{listed_sets}
use Rattle.mat_witness.specs.Parts.{BoundPart, FreePart, WitnessParts, count, forest, paths, probes, spent, labels, gate, zeros}
use Rattle.mat_witness.specs.Shown.{bounded_trees, rung_at}

-- ---- lines

-- a line of a keyword and a binary number of so many digits
unfoldable pub binary_line_at : List ℕ → ℕ → LinesLeft → Result (ℕ × LinesLeft) Fault
binary_line_at key digits p = do
  line ← counted_at key 1 p
  number ← told (any_text.binary_at digits line.0)
  Ok (number.0, line.1)

-- an edge below n and a vertex
unfoldable pub pair_at : ℕ → ℕ → WordsLeft → Result ((ℕ × ℕ) × WordsLeft) Fault
pair_at n vertices p = do
  edge ← below_at n p
  vertex ← below_at vertices edge.1
  Ok ((edge.0, vertex.0), vertex.1)

-- a line of at least one vertex
unfoldable pub path_at : ℕ → LinesLeft → Result (List ℕ × LinesLeft) Fault
path_at vertices p = do
  line ← keyed_at (codes "path") p
  first ← below_at vertices line.0
  others ← repeat_at (below_at vertices) (length first.1.words) first.1
  Ok (first.0 ∷ others.0, line.1)

-- ---- parts

-- what shows a set of k members independent in a matroid on n elements
unfoldable pub free_at : ℕ → ℕ → Tree → LinesLeft → Result (FreePart × LinesLeft) Fault
free_at n k (graphic vertices edges) p = do
  line ← counted_at (codes "forest") (2 * k) p
  pairs ← repeat_at (pair_at n vertices) k line.0
  Ok (forest pairs.0, line.1)
free_at n k (gammoid vertices arcs sources targets) p = do
  lists ← repeat_at (path_at vertices) k p
  Ok (paths lists.0, lists.1)
free_at n k (gf2 dim columns) p = do
  numbers ← repeat_at (binary_line_at (codes "probe") dim) k p
  Ok (probes numbers.0, numbers.1)
free_at n k tree p = do
  line ← counted_at (codes "count") 0 p
  Ok (count, line.1)

-- a bound of the rank of a set in a matroid on n elements
unfoldable pub bound_at : ℕ → Tree → LinesLeft → Result (BoundPart × LinesLeft) Fault
bound_at n (graphic vertices edges) p = do
  line ← counted_at (codes "labels") vertices p
  numbers ← repeat_at (below_at vertices) vertices line.0
  Ok (labels numbers.0, line.1)
bound_at n (gammoid vertices arcs sources targets) p = do
  reached ← set_at (codes "reach") vertices p
  closing ← set_at (codes "gate") vertices reached.1
  Ok (gate reached.0 closing.0, closing.1)
bound_at n (gf2 dim columns) p = do
  line ← counted_at (codes "zeros") 1 p
  many ← size_at 0 dim line.0
  numbers ← repeat_at (binary_line_at (codes "zero") dim) many.0 line.1
  Ok (zeros numbers.0, numbers.1)
bound_at n tree p = do
  elements ← set_at (codes "spent") n p
  chosen ← set_at (codes "sets") (length (listed_sets tree)) elements.1
  Ok (spent elements.0 chosen.0, chosen.1)

-- a bound for each of these matroids
unfoldable pub bounds_at : ℕ → List Tree → LinesLeft → Result (List BoundPart × LinesLeft) Fault
bounds_at n [] p = Ok ([], p)
bounds_at n (tree ∷ trees) p = do
  part ← bound_at n tree p
  others ← bounds_at n trees part.1
  Ok (part.0 ∷ others.0, others.1)

-- ---- the text

-- the first line, which names the version
unfoldable pub version_at : LinesLeft → Result LinesLeft Fault
version_at p = do
  line ← counted_at (codes "witness") 1 p
  behind ← fixed_at (codes "1") line.0
  Ok line.1

-- the line of rung k
unfoldable pub rung_line_at : ℕ → LinesLeft → Result LinesLeft Fault
rung_line_at k p = do
  line ← counted_at (codes "rung") 1 p
  number ← number_at (pos k) (pos k) line.0
  Ok line.1

-- a witness for rung k of two matroids on n elements, whose bounds are for these
unfoldable pub parts_at : ℕ → Tree → Tree → List Tree → ℕ → LinesLeft → Result (WitnessParts × LinesLeft) Fault
parts_at n first second trees k p = do
  first_part ← free_at n k first p
  second_part ← free_at n k second first_part.1
  bounds ← bounds_at n trees second_part.1
  Ok (record { k = k; first = first_part.0; second = second_part.0; bounds = bounds.0 }, bounds.1)

-- a whole witness
unfoldable pub witness_at : ℕ → Tree → Tree → List Tree → ℕ → LinesLeft → Result WitnessParts Fault
witness_at n first second trees k p = do
  version ← version_at p
  rung ← rung_line_at k version
  parts ← parts_at n first second trees k rung
  end ← end_at parts.1
  closed ← closed_at end
  Ok parts.0

-- the witness for rung k of this answer to this problem that a text spells, or its first fault
unfoldable pub read_of : Instance → Certificate → ℕ → List ℕ → Result WitnessParts Fault
read_of (pair w first second) (intersect n rungs cut) k text =
    witness_at (length w) first second (bounded_trees first second k (rung_at rungs k)) k (record { line = 1; lines = lines_of text })
read_of instance answer k text = Err (kinds.EndsEarly, 1)
