use Rattle.mat_sets.proofs.Common.{◌<◌, ◌-◌, length, take, IsRising}
use Rattle.mat_sets.proofs.elem_set.ElemSet.from_sorted.Given as goal

abbrev pub invariant-loop-at : goal.invariant-loop-at
invariant-loop-at l = record { past_first : 0 < l.at; rises : IsRising (take l.at l.items.items) }

abbrev pub decreases-loop-at : goal.decreases-loop-at
decreases-loop-at l = length l.items.items - l.at
