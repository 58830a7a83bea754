-- Uniform matroids in which one set of as many elements as the cap is dependent: sparse paving matroids with one such circuit (Oxley, section 2.1).
use Rattle.std.specs.Prelude.{ℕ, Bool, not, ◌==◌, ◌&&◌, List, length}
use Rattle.std.specs.Cmp.Lexicographic.{pointwise}
use Rattle.mat_count.specs.Counts.{is_uniform}

-- at most as many elements as the circuit has, and not the circuit itself
abbrev pub is_uniform_except : ℕ → List ℕ → List ℕ → Bool
is_uniform_except n circuit X = is_uniform n (length circuit) X && not (pointwise ◌==◌ X circuit)
