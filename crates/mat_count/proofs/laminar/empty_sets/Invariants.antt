use Rattle.mat_count.proofs.Common.{◌≡◌, [], replicate}
use Rattle.mat_count.proofs.laminar.empty_sets.Given as goal

abbrev pub invariant-loop : goal.invariant-loop
invariant-loop l = l.sets.items ≡ replicate l.counter []
