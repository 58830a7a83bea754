-- The rows from the place on are transposed.
use Rattle.mat_gf2.proofs.Common.{drop, IsTransposed}
use Rattle.mat_gf2.proofs.parity.parity_check.Given as goal

abbrev pub invariant-loop-place : goal.invariant-loop-place
invariant-loop-place l = IsTransposed (drop l.place l.basis) l.start l.check
