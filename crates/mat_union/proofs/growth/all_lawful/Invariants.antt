use Rattle.mat_union.proofs.Common.{ℕ, ◌<◌, map, IsMatroid, test_at}
use Rattle.mat_union.proofs.growth.all_lawful.Given as goal

abbrev pub invariant-loop-i : goal.invariant-loop-i
invariant-loop-i g l = (j : ℕ) → j < l.i → IsMatroid l._n (test_at (map g.M.Asked.indep l.matroids) j)
