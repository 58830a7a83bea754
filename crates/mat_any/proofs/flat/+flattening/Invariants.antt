use Rattle.mat_any.proofs.Common.{◌≡◌, ◌++◌, take, trees_in, trees_seen, flat_trees}
use Rattle.mat_any.proofs.flat.+flattening.Given as goal

abbrev pub invariant-push_each-loop-matroid : goal.invariant-push_each-loop-matroid
invariant-push_each-loop-matroid l = trees_seen l.all.items ≡ trees_seen l.initial.all.items ++ flat_trees (trees_in (take l.matroid-index l.matroids))
