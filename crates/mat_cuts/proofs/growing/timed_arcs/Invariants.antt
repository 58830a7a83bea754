use Rattle.mat_cuts.proofs.Common.{◌≡◌, those_below, is_timed}
use Rattle.mat_cuts.proofs.growing.timed_arcs.Given as goal

abbrev pub invariant-loop-a : goal.invariant-loop-a
invariant-loop-a l = l.timed.items ≡ those_below l.a (is_timed l.since)
