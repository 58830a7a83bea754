use Rattle.mat_gf2.proofs.Common.{◌≡◌, drop, reduced_tagged_by}
use Rattle.mat_gf2.proofs.elimination.reduce_tagged.Given as goal

abbrev pub invariant-loop-row : goal.invariant-loop-row
invariant-loop-row l = reduced_tagged_by (drop l.row-index l.basis) l.left ≡ reduced_tagged_by l.basis l.fn.column
