use Rattle.mat_union.proofs.Common.{◌≡◌, not, family_union, those_below, is_member}
use Rattle.mat_union.proofs.filling.elements_left_out.Given as goal

abbrev pub invariant-loop-x : goal.invariant-loop-x
invariant-loop-x l = l.set ≡ those_below l.x (λ y. not (is_member y (family_union l.parts)))
