use Rattle.mat_arbor.proofs.Common.{ℕ, ◌<◌, ends_of, Leaves}
use Rattle.mat_arbor.proofs.growing.leaving_arc.Given as goal

-- no arc before place a leaves the set
abbrev pub invariant-loop-a : goal.invariant-loop-a
invariant-loop-a l = (b : ℕ) → b < l.a → Leaves (ends_of l.arcs) l.set b → ⊥
