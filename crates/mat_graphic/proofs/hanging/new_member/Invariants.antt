use Rattle.mat_graphic.proofs.Common.{◌≡◌, ◌+◌, ◌-◌, ◌<◌, ◌≤◌, ℕ, length, get_or}
use Rattle.mat_graphic.proofs.hanging.new_member.Given as goal

abbrev pub invariant-loop-at : goal.invariant-loop-at
invariant-loop-at l = record {
  within : l.at ≤ length l.base;
  same : (k : ℕ) → k < l.at → get_or l.base k 0 ≡ get_or l.next k 0;
}

abbrev pub decreases-loop-at : goal.decreases-loop-at
decreases-loop-at l = length l.base - l.at

abbrev pub invariant-loop-i : goal.invariant-loop-i
invariant-loop-i l = (k : ℕ) → l.at ≤ k → k < l.i → get_or l.base k 0 ≡ get_or l.next (k + 1) 0
