use Rattle.mat_linked.proofs.Common.{◌≡◌, take, has_vertex_in}
use Rattle.std.specs.List.{filter}
use Rattle.mat_linked.proofs.gammoid.members_at.Given as goal

-- those of the first elements are found
abbrev pub invariant-loop-e : goal.invariant-loop-e
invariant-loop-e l = l.found ≡ filter (has_vertex_in l.targets l.vertices) (take l.e-index l.elements)
