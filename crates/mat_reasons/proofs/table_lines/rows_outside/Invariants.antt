-- The rows of the cells so far outside the set.
use Rattle.mat_reasons.proofs.Common.{not, ends_of, is_member, AreValuesBelow}
use Rattle.mat_reasons.proofs.table_lines.rows_outside.Given as goal

abbrev pub invariant-loop-e : goal.invariant-loop-e
invariant-loop-e l = AreValuesBelow (λ e. not (is_member e l.set)) (λ e. (ends_of l.cells e).0) l.e l.rows
