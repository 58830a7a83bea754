-- The last vertices of the paths so far are listed.
use Rattle.mat_witness.proofs.Common.{◌≡◌, map, take, last_of}
use Rattle.mat_witness.proofs.parts.gammoids.paths.last_vertices.Given as goal

abbrev pub invariant-loop-path : goal.invariant-loop-path
invariant-loop-path l = l.ends.items ≡ map last_of (take l.path-index l.lists)
