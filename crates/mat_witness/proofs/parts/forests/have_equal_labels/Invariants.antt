-- The edges so far join no two labels.
use Rattle.mat_witness.proofs.Common.{◌≡◌, true, take, ends_of, have_equal_labels}
use Rattle.mat_witness.proofs.parts.forests.have_equal_labels.Given as goal

abbrev pub invariant-loop-e : goal.invariant-loop-e
invariant-loop-e l = have_equal_labels (ends_of l.edges) l.numbers (take l.e-index l.set) ≡ true
