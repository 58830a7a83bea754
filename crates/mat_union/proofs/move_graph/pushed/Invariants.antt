use Rattle.mat_union.proofs.Common.{◌≡◌, ℕ, is_member, can_push, exchanges_of}
use Rattle.mat_union.proofs.move_graph.pushed.Given as goal

abbrev pub invariant-loop-i : goal.invariant-loop-i
invariant-loop-i l = (v : ℕ) → is_member v l.set ≡ can_push l.i (exchanges_of l.rows) l.u v
