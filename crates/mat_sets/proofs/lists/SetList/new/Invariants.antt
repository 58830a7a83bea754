use Rattle.mat_sets.proofs.Common.{take, AllRising}
use Rattle.mat_sets.proofs.lists.SetList.new.Given as goal

abbrev pub invariant-loop-set : goal.invariant-loop-set
invariant-loop-set l = AllRising (take l.set-index l.set-items)
