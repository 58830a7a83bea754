-- The columns of the cells so far in the set.
use Rattle.mat_reasons.proofs.Common.{ends_of, is_member, AreValuesBelow}
use Rattle.mat_reasons.proofs.table_lines.columns_inside.Given as goal

abbrev pub invariant-loop-e : goal.invariant-loop-e
invariant-loop-e l = AreValuesBelow (λ e. is_member e l.set) (λ e. (ends_of l.cells e).1) l.e l.columns
