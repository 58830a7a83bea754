use Rattle.mat_any.proofs.Common.{◌≡◌, ℕ, ◌||◌, ◌&&◌, ltb, is_member, row_of, is_independent, tree_of}
use Rattle.mat_any.proofs.columns_at.enter_each.Given as goal

-- those of the first elements are in
abbrev pub invariant-loop-x : goal.invariant-loop-x
invariant-loop-x l = (y : ℕ) → is_member y l.entering ≡ (is_member y l.fn.entering || (ltb y l.x && (row_of (is_independent (tree_of l.matroid)) l.part y).addable))
