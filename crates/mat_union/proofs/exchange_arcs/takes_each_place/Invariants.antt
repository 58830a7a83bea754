use Rattle.mat_union.proofs.Common.{◌≡◌, ℕ, true, take, row_at, is_member}
use Rattle.mat_union.proofs.exchange_arcs.takes_each_place.Given as goal

-- it is in the columns of the first members
abbrev pub invariant-loop-y : goal.invariant-loop-y
invariant-loop-y l = (y : ℕ) → is_member y (take l.y-index l.part) ≡ true → is_member l.x (row_at l.columns y) ≡ true
