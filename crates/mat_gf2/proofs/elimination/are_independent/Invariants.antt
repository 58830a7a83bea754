use Rattle.mat_gf2.proofs.Common.{drop, column_of}
use Rattle.mat_gf2.proofs.Eliminating.{IsEliminating}
use Rattle.mat_gf2.proofs.elimination.are_independent.Given as goal

abbrev pub invariant-loop-place : goal.invariant-loop-place
invariant-loop-place l = IsEliminating (column_of l.columns) (drop l.place l.set) l.basis.items
