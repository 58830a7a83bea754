use Rattle.mat_union.proofs.Common.{◌≡◌, take, minus, union, IsRising, elements, entering}
use Rattle.mat_union.proofs.moved_sets.moved_part.Given as goal

abbrev pub invariant-loop-i : goal.invariant-loop-i
invariant-loop-i l = record {
  start : IsRising (minus l.part (elements l.moves));
  rises : IsRising l.set;
  is : l.set ≡ union (entering (take l.i l.moves) l.q) (minus l.part (elements l.moves));
}
