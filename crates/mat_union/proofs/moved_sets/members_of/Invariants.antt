use Rattle.mat_union.proofs.Common.{◌≡◌, take, family_union}
use Rattle.mat_union.proofs.moved_sets.members_of.Given as goal

abbrev pub invariant-loop-set : goal.invariant-loop-set
invariant-loop-set l = l.members ≡ family_union (take l.set-index l.sets)
