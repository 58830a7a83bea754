-- No class before this holds both.
use Rattle.mat_check.proofs.Common.{◌≡◌, ◌&&◌, false, [], get_or, some_below, is_member}
use Rattle.mat_check.proofs.graphs.trees.is_inside.Given as goal

abbrev pub invariant-loop-q : goal.invariant-loop-q
invariant-loop-q l = some_below l.q (λ q. is_member l.first (get_or l.classes q []) && is_member l.second (get_or l.classes q [])) ≡ false
