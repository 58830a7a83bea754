use Rattle.mat_gf2.proofs.Common.{length, IsRunning, column_of, is_gf2}
use Rattle.mat_gf2.proofs.GrowingBasis.{IsBasisOf}
use Rattle.mat_gf2.proofs.elimination.run_along.Given as goal

abbrev pub invariant-loop-x : goal.invariant-loop-x
invariant-loop-x l =
    IsRunning (is_gf2 (length l.columns) (column_of l.columns)) l.order l.x-index l.set
    × IsBasisOf (column_of l.columns) l.set l.basis.items
