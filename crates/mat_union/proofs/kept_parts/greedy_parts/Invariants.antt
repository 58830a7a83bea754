use Rattle.mat_union.proofs.Common.{map}
use Rattle.mat_union.proofs.PartsOfSets.{AreTakenSo}
use Rattle.mat_union.proofs.kept_parts.greedy_parts.Given as goal

abbrev pub invariant-loop-i : goal.invariant-loop-i
invariant-loop-i g l = AreTakenSo (map g.M.Asked.indep l.matroids) l.set l.i l.parts.items l.rest
