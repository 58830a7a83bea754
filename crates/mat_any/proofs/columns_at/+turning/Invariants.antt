use Rattle.mat_any.proofs.Common.{map, AreArcs, exchanges_with, test_in}
use Rattle.mat_any.proofs.columns_at.+turning.Given as goal

-- the arcs of the first parts
abbrev pub invariant-arcs_of-loop-i : goal.invariant-arcs_of-loop-i
invariant-arcs_of-loop-i l = AreArcs l.n l.i (exchanges_with (map test_in l.matroids) l.parts) l.arcs
