use Rattle.mat_union.proofs.Common.{◌≡◌, ℕ, ◌||◌, take, is_member}
use Rattle.mat_union.proofs.move_graph.insert_all.Given as goal

abbrev pub invariant-loop-x : goal.invariant-loop-x
invariant-loop-x l = (v : ℕ) → is_member v l.set ≡ (is_member v l.fn.set || is_member v (take l.x-index l.items))
