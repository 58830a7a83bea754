-- None of the first parts takes x.
use Rattle.mat_any.proofs.Common.{◌≡◌, ℕ, ◌<◌, false, map, exchanges_with, test_in}
use Rattle.mat_any.proofs.rows.part_that_takes.Given as goal

abbrev pub invariant-loop-i : goal.invariant-loop-i
invariant-loop-i l = (k : ℕ) → k < l.i → (exchanges_with (map test_in l.matroids) l.parts k).adds l.x ≡ false
