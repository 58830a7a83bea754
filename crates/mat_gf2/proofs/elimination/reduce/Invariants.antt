use Rattle.mat_gf2.proofs.Common.{◌≡◌, drop, reduced_by}
use Rattle.mat_gf2.proofs.elimination.reduce.Given as goal

abbrev pub invariant-loop-row : goal.invariant-loop-row
invariant-loop-row l = reduced_by (drop l.row-index l.basis) l.left ≡ reduced_by l.basis l.column
