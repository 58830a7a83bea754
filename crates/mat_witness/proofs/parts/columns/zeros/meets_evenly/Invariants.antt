-- The number meets the columns of the items so far evenly.
use Rattle.mat_witness.proofs.Common.{◌≡◌, ℕ, ◌<◌, true, not, slice_index_or, column_of, inner_product_is_one}
use Rattle.mat_witness.proofs.parts.columns.zeros.meets_evenly.Given as goal

abbrev pub invariant-loop-e : goal.invariant-loop-e
invariant-loop-e l = (i : ℕ) → i < l.e-index → not (inner_product_is_one l.number (column_of l.columns (slice_index_or l.set i 0))) ≡ true
