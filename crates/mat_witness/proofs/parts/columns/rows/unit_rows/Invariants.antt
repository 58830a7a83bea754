-- There is a row for each place so far.
use Rattle.mat_witness.proofs.Common.{◌≡◌, ◌^◌, map, all_below}
use Rattle.mat_witness.proofs.parts.columns.rows.unit_rows.Given as goal

abbrev pub invariant-loop-place : goal.invariant-loop-place
invariant-loop-place l = l.rows.items ≡ map (λ place. 2 ^ place) (all_below l.place)
