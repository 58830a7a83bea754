-- No row so far meets the column oddly.
use Rattle.mat_witness.proofs.Common.{◌≡◌, ℕ, ◌<◌, false, slice_index_or, inner_product_is_one}
use Rattle.mat_witness.proofs.parts.columns.rows.odd_row.Given as goal

abbrev pub invariant-loop-i : goal.invariant-loop-i
invariant-loop-i l = (k : ℕ) → k < l.i → inner_product_is_one (slice_index_or l.rows k 0) l.column ≡ false
