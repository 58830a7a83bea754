-- The vertices of the paths so far are listed.
use Rattle.mat_witness.proofs.Common.{◌≡◌, take}
use Rattle.std.specs.List.{concat}
use Rattle.mat_witness.proofs.parts.gammoids.paths.all_vertices.Given as goal

abbrev pub invariant-loop-path : goal.invariant-loop-path
invariant-loop-path l = l.vertices.items ≡ concat (take l.path-index l.lists)
