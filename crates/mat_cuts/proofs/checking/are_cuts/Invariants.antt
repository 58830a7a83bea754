use Rattle.mat_cuts.proofs.Common.{ℕ, take, IsCutInRange, IsWeightedCut}
use Rattle.std.specs.List.{AllByRecursion}
use Rattle.mat_cuts.proofs.checking.are_cuts.Given as goal

abbrev pub invariant-loop-cut : goal.invariant-loop-cut
invariant-loop-cut l = (vertices : ℕ) → AllByRecursion (IsCutInRange vertices) l.cuts → AllByRecursion (IsWeightedCut vertices l.root) (take l.cut-index l.cuts)
