-- None of the first parts takes x.
use Rattle.mat_union.proofs.Common.{◌≡◌, ℕ, ◌<◌, false, map, exchanges_with}
use Rattle.mat_union.proofs.growth.part_that_takes.Given as goal

abbrev pub invariant-loop-i : goal.invariant-loop-i
invariant-loop-i g l = (k : ℕ) → k < l.i → (exchanges_with (map g.M.Asked.indep l.matroids) l.parts k).adds l.x ≡ false
