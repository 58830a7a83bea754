-- The number meets the columns of the members so far as it should.
use Rattle.mat_witness.proofs.Common.{◌≡◌, ℕ, ◌<◌, true, not, eqb, cond, slice_index_or, column_of, inner_product_is_one}
use Rattle.mat_witness.proofs.parts.columns.probes.tells_member.Given as goal

abbrev pub invariant-loop-j : goal.invariant-loop-j
invariant-loop-j l = (j : ℕ) → j < l.j → cond (eqb l.place j) (inner_product_is_one l.number (column_of l.columns (slice_index_or l.set j 0)))
    (not (inner_product_is_one l.number (column_of l.columns (slice_index_or l.set j 0)))) ≡ true
