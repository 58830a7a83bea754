use Rattle.mat_union.proofs.Common.{map, AreArcs, exchanges_with}
use Rattle.mat_union.proofs.kept_columns.arcs_of.Given as goal

-- the arcs of the first parts
abbrev pub invariant-loop-i : goal.invariant-loop-i
invariant-loop-i g l = AreArcs l.n l.i (exchanges_with (map g.M.Asked.indep l.matroids) l.parts) l.arcs
