use Rattle.mat_union.proofs.Common.{◌≡◌, ◌||◌, ◌==◌, false, is_member, some_below, element_at, place_at}
use Rattle.mat_union.proofs.moved_sets.is_entered_or_left.Given as goal

-- none of the first moves does
abbrev pub invariant-loop-i : goal.invariant-loop-i
invariant-loop-i l = some_below l.i (λ k. place_at l.moves k == l.q || is_member (element_at l.moves k) l.part) ≡ false
