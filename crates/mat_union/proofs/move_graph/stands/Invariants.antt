use Rattle.mat_union.proofs.Common.{◌≡◌, ℕ, ◌<◌, false, is_member, part_at}
use Rattle.mat_union.proofs.move_graph.stands.Given as goal

abbrev pub invariant-loop-i : goal.invariant-loop-i
invariant-loop-i l = (q : ℕ) → q < l.i → is_member l.v (part_at l.parts q) ≡ false
