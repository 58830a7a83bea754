-- The vertices so far that are their own least ones are in the set.
use Rattle.mat_graphic.proofs.Common.{◌≡◌, get_or, roots_of}
use Rattle.mat_graphic.proofs.components.least_vertices.Given as goal

abbrev pub invariant-loop-v : goal.invariant-loop-v
invariant-loop-v l = l.set ≡ roots_of l.v (λ v. get_or l.least v 0)
