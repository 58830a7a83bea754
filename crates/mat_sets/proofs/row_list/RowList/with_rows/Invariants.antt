use Rattle.mat_sets.proofs.Common.{◌≡◌, [], replicate}
use Rattle.mat_sets.proofs.row_list.RowList.with_rows.Given as goal

abbrev pub invariant-loop : goal.invariant-loop
invariant-loop l = l.rows.items ≡ replicate l.counter []
