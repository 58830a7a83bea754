-- None of the matroids so far has such rows.
use Rattle.mat_solve.proofs.Common.{◌≡◌, false, take, tree_of, has_costly_rows}
use Rattle.std.specs.List.{list_any}
use Rattle.mat_solve.proofs.costly_rows.+judging.Given as goal

abbrev pub invariant-some_have_costly_rows-loop-matroid : goal.invariant-some_have_costly_rows-loop-matroid
invariant-some_have_costly_rows-loop-matroid l = list_any (λ m. has_costly_rows (tree_of m)) (take l.matroid-index l.matroids) ≡ false
