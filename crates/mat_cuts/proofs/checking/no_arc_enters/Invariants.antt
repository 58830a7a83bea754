use Rattle.mat_cuts.proofs.Common.{◌≡◌, ◌<◌, ℕ, false, ends_of, enters}
use Rattle.mat_cuts.proofs.checking.no_arc_enters.Given as goal

abbrev pub invariant-loop-a : goal.invariant-loop-a
invariant-loop-a l = (a : ℕ) → a < l.a → enters (ends_of l.arcs) l.set a ≡ false
