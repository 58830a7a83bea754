-- The numbers so far tell their members.
use Rattle.mat_witness.proofs.Common.{◌≡◌, ℕ, ◌<◌, true, not, eqb, cond, length, slice_index_or, all_below, column_of, inner_product_is_one}
use Rattle.std.specs.List.{list_all}
use Rattle.mat_witness.proofs.parts.columns.probes.shows_probes.Given as goal

abbrev pub invariant-loop-i : goal.invariant-loop-i
invariant-loop-i l = (i : ℕ) → i < l.i
    → list_all (λ j. cond (eqb i j) (inner_product_is_one (slice_index_or l.numbers i 0) (column_of l.matroid.columns (slice_index_or l.set j 0)))
    (not (inner_product_is_one (slice_index_or l.numbers i 0) (column_of l.matroid.columns (slice_index_or l.set j 0))))) (all_below (length l.set)) ≡ true
