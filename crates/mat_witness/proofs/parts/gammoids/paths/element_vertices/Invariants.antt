-- The vertices of the elements so far are listed.
use Rattle.mat_witness.proofs.Common.{◌≡◌, take, vertices_of}
use Rattle.mat_witness.proofs.parts.gammoids.paths.element_vertices.Given as goal

abbrev pub invariant-loop-e : goal.invariant-loop-e
invariant-loop-e l = l.vertices.items ≡ vertices_of l.targets (take l.e-index l.elements)
