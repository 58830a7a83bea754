use Rattle.mat_union.proofs.Common.{◌≡◌, [], replicate}
use Rattle.mat_union.proofs.empty.empty_parts.Given as goal

abbrev pub invariant-loop : goal.invariant-loop
invariant-loop l = l.parts.items ≡ replicate l.counter []
