use Rattle.mat_any.proofs.Common.{length, map, exchanges_with, questions_left, IsReaching, test_in}
use Rattle.mat_any.proofs.rows.+rows.Given as goal

abbrev pub invariant-search_from-loop-asked : goal.invariant-search_from-loop-asked
invariant-search_from-loop-asked l = IsReaching l.n (length l.parts) (exchanges_with (map test_in l.matroids) l.parts) l.among l.x l.search

abbrev pub decreases-search_from-loop-asked : goal.decreases-search_from-loop-asked
decreases-search_from-loop-asked l = questions_left l.among l.search
