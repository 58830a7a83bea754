-- The one text of a witness.
use Rattle.std.specs.Prelude.{ℕ, List, [], ◌∷◌, ◌++◌, length, map, pos, codes}
use Rattle.std.specs.List.{flat_map}
use Rattle.mat_words.specs.Binary.{binary}
use Rattle.mat_words.specs.Lines.{Line, text_of}
use Rattle.mat_words.specs.Numbers.{numeral}
use Rattle.mat_words.specs.Writing.{end_line, members_line}
use Rattle.mat_any.specs.Trees.{Tree, gf2}
use Rattle.mat_problem.specs.Instances.{Instance, pair}
use Rattle.mat_cert.specs.Certificates.{Certificate, intersect}
use Rattle.mat_witness.specs.Parts.{BoundPart, FreePart, WitnessParts, count, forest, paths, probes, spent, labels, gate, zeros}
use Rattle.mat_witness.specs.Shown.{bounded_trees, rung_at}

-- a line of a keyword and a binary number of so many digits
abbrev pub binary_line : List ℕ → ℕ → ℕ → Line
binary_line keyword digits number = keyword ∷ binary digits number ∷ []

-- the number of digits of the columns of a matroid
abbrev pub digits_of : Tree → ℕ
digits_of (gf2 dim columns) = dim
digits_of tree = 0

-- the lines of a part that shows independence
abbrev pub free_lines : Tree → FreePart → List Line
free_lines tree count = (codes "count" ∷ []) ∷ []
free_lines tree (forest pairs) = members_line (codes "forest") (flat_map (λ pair. pair.0 ∷ pair.1 ∷ []) pairs) ∷ []
free_lines tree (paths lists) = map (members_line (codes "path")) lists
free_lines tree (probes numbers) = map (binary_line (codes "probe") (digits_of tree)) numbers

-- the lines of a bound
abbrev pub bound_lines : Tree → BoundPart → List Line
bound_lines tree (spent elements chosen) = members_line (codes "spent") elements ∷ members_line (codes "sets") chosen ∷ []
bound_lines tree (labels numbers) = members_line (codes "labels") numbers ∷ []
bound_lines tree (gate reached closing) = members_line (codes "reach") reached ∷ members_line (codes "gate") closing ∷ []
bound_lines tree (zeros numbers) =
    (codes "zeros" ∷ numeral (pos (length numbers)) ∷ []) ∷ map (binary_line (codes "zero") (digits_of tree)) numbers

-- the lines of the bounds, one for each of these matroids
abbrev pub bounds_lines : List Tree → List BoundPart → List Line
bounds_lines (tree ∷ trees) (part ∷ parts) = bound_lines tree part ++ bounds_lines trees parts
bounds_lines trees parts = []

-- the lines of a witness for two matroids, whose bounds are for these
abbrev pub witness_lines : Tree → Tree → List Tree → WitnessParts → List Line
witness_lines first second trees witness =
    (codes "witness" ∷ codes "1" ∷ []) ∷ (codes "rung" ∷ numeral (pos witness.k) ∷ [])
    ∷ free_lines first witness.first ++ (free_lines second witness.second ++ (bounds_lines trees witness.bounds ++ end_line ∷ []))

-- the text of a witness for rung k of this answer to this problem
abbrev pub witness_text : Instance → Certificate → ℕ → WitnessParts → List ℕ
witness_text (pair w first second) (intersect n rungs cut) k witness =
    text_of (witness_lines first second (bounded_trees first second k (rung_at rungs k)) witness)
witness_text instance answer k witness = []

-- the most bytes that the text of a witness may have
abbrev pub witness_limit : ℕ
witness_limit = 67108864
