use Rattle.mat_gf2.proofs.Common.{drop, column_of, IsTaggedBasis}
use Rattle.mat_gf2.proofs.elimination.tagged_basis.Given as goal

abbrev pub invariant-loop-place : goal.invariant-loop-place
invariant-loop-place l = IsTaggedBasis (column_of l.columns) l.set (drop l.place l.set) l.basis.items
