use Rattle.mat_union.proofs.Common.{length, map, exchanges_with, questions_left, IsReaching}
use Rattle.mat_union.proofs.growth.search_from.Given as goal

abbrev pub invariant-loop-asked : goal.invariant-loop-asked
invariant-loop-asked g l = IsReaching l.n (length l.parts) (exchanges_with (map g.M.Asked.indep l.matroids) l.parts) l.among l.x l.search

abbrev pub decreases-loop-asked : goal.decreases-loop-asked
decreases-loop-asked g l = questions_left l.among l.search
