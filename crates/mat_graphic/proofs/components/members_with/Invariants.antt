-- The vertices of the component so far.
use Rattle.mat_graphic.proofs.Common.{◌≡◌, get_or, class_of}
use Rattle.mat_graphic.proofs.components.members_with.Given as goal

abbrev pub invariant-loop-v : goal.invariant-loop-v
invariant-loop-v l = l.set ≡ class_of l.v (λ v. get_or l.least v 0) l.root
