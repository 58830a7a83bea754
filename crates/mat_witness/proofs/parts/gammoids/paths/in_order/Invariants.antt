-- The paths to the vertices so far are listed.
use Rattle.mat_witness.proofs.Common.{◌≡◌, map, take, path_to}
use Rattle.mat_witness.proofs.parts.gammoids.paths.in_order.Given as goal

abbrev pub invariant-loop-v : goal.invariant-loop-v
invariant-loop-v l = l.lists.items ≡ map (path_to l.paths) (take l.v-index l.vertices)
