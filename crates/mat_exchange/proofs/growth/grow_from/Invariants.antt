use Rattle.mat_exchange.proofs.Common.{◌+◌, ◌-◌, length}
use Rattle.mat_exchange.proofs.GrowthSteps.{IsGrowth}
use Rattle.mat_exchange.proofs.growth.grow_from.Given as goal

abbrev pub invariant-loop-x : goal.invariant-loop-x
invariant-loop-x l = IsGrowth (length l.fn.w1) l.set l.first l.second l.fn.w1 l.fn.w2 l.root l.reached l.others l.fringe.members
    l.total l.w1 l.w2 l.fringe.gains l.top l.inside

abbrev pub decreases-loop-x : goal.decreases-loop-x
decreases-loop-x l = (length l.fn.w1 + 1) - length l.reached
