use Rattle.mat_union.proofs.Common.{◌≡◌, take, minus, IsRising, elements}
use Rattle.mat_union.proofs.moved_sets.without_moved.Given as goal

abbrev pub invariant-loop-i : goal.invariant-loop-i
invariant-loop-i l = record { part : IsRising l.part; rises : IsRising l.set; is : l.set ≡ minus l.part (elements (take l.i l.moves)) }
