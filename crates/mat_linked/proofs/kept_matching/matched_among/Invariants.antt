use Rattle.mat_linked.proofs.Common.{◌≡◌, ℕ, take, is_member, is_matched_among}
use Rattle.mat_linked.proofs.kept_matching.matched_among.Given as goal

-- the elements of the first indices are found
abbrev pub invariant-loop-j : goal.invariant-loop-j
invariant-loop-j l = (y : ℕ) → is_member y l.found ≡ is_matched_among l.matched (take l.j-index l.indices) y
