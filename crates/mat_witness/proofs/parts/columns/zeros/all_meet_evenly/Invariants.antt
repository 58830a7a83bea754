-- The numbers so far meet the columns of all items evenly.
use Rattle.mat_witness.proofs.Common.{◌≡◌, ℕ, ◌<◌, true, not, slice_index_or, column_of, inner_product_is_one}
use Rattle.std.specs.List.{list_all}
use Rattle.mat_witness.proofs.parts.columns.zeros.all_meet_evenly.Given as goal

abbrev pub invariant-loop-number : goal.invariant-loop-number
invariant-loop-number l = (i : ℕ) → i < l.number-index
    → list_all (λ e. not (inner_product_is_one (slice_index_or l.numbers i 0) (column_of l.columns e))) l.set ≡ true
