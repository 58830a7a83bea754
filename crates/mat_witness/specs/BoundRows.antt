-- Bounds that stand in a row: so many for one matroid, so many for another, and then one for each.
use Rattle.std.specs.Prelude.{ℕ, List, [], ◌∷◌, ◌++◌, replicate, Result, Ok}
use Rattle.mat_words.specs.Cursors.{LinesLeft}
use Rattle.mat_words.specs.Steps.{◌>>=◌, repeat_at}
use Rattle.mat_any.specs.Trees.{Tree}
use Rattle.mat_cert.specs.Faults.{Fault}
use Rattle.mat_witness.specs.Parts.{BoundPart}
use Rattle.mat_witness.specs.Reading.{bound_at}

-- the matroids of bounds in a row
abbrev pub row_trees : Tree → Tree → ℕ → ℕ → List Tree
row_trees first second firsts seconds = replicate firsts first ++ (replicate seconds second ++ first ∷ second ∷ [])

-- a reading of more items of a list, with the items that are already there in front
abbrev pub behind : {A S : Type 0} → List A → Result (List A × S) Fault → Result (List A × S) Fault
behind front reading = reading >>= λ x. Ok (front ++ x.0, x.1)

-- the bounds in a row in matroids on n elements
unfoldable pub row_at : ℕ → Tree → Tree → ℕ → ℕ → LinesLeft → Result (List BoundPart × LinesLeft) Fault
row_at n first second firsts seconds p = do
  front ← behind [] (repeat_at (bound_at n first) firsts p)
  both ← behind front.0 (repeat_at (bound_at n second) seconds front.1)
  outside ← behind both.0 (repeat_at (bound_at n first) 1 both.1)
  behind outside.0 (repeat_at (bound_at n second) 1 outside.1)
