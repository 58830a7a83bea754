use Rattle.mat_cuts.proofs.Common.{◌≡◌, ends_of, those_below, comes}
use Rattle.mat_cuts.proofs.lowering.arcs_coming.Given as goal

abbrev pub invariant-loop-a : goal.invariant-loop-a
invariant-loop-a l = l.coming.items ≡ those_below l.a (comes (ends_of l.arcs) l.path.place.items l.path.last)
