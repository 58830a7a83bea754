-- The components of the least vertices so far.
use Rattle.mat_graphic.proofs.Common.{◌≡◌, get_or, length, map, take, class_of}
use Rattle.mat_graphic.proofs.components.components_at.Given as goal

abbrev pub invariant-loop-root : goal.invariant-loop-root
invariant-loop-root l = l.sets.items ≡ map (class_of (length l.least) (λ v. get_or l.least v 0)) (take l.root-index l.roots)
