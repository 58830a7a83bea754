-- The bytes so far are appended with their entities.
use Rattle.mat_drawing.proofs.Common.{◌≡◌, ◌++◌, take, entity, printed}
use Rattle.std.specs.List.{flat_map}
use Rattle.mat_drawing.proofs.escaping.put_escaped.Given as goal

abbrev pub invariant-loop-b : goal.invariant-loop-b
invariant-loop-b l = l.out.items ≡ l.initial.out.items ++ flat_map (λ b. entity (printed b)) (take l.b-index l.words)
