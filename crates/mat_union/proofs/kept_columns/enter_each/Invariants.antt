use Rattle.mat_union.proofs.Common.{◌≡◌, ℕ, ◌||◌, ◌&&◌, ltb, is_member, row_of}
use Rattle.mat_union.proofs.kept_columns.enter_each.Given as goal

-- those of the first elements are in
abbrev pub invariant-loop-x : goal.invariant-loop-x
invariant-loop-x g l = (y : ℕ) → is_member y l.entering ≡ (is_member y l.fn.entering || (ltb y l.x && (row_of (g.M.Asked.indep l.m) l.part y).addable))
