use Rattle.mat_union.proofs.Common.{◌≡◌, [], replicate}
use Rattle.mat_union.proofs.exchange_arcs.empty_rows.Given as goal

abbrev pub invariant-loop : goal.invariant-loop
invariant-loop l = l.rows.items ≡ replicate l.counter []
