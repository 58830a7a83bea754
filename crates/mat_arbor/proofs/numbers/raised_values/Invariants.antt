use Rattle.mat_arbor.proofs.Common.{◌≡◌, map, take, raised_value}
use Rattle.mat_arbor.proofs.numbers.raised_values.Given as goal

abbrev pub invariant-loop-cost : goal.invariant-loop-cost
invariant-loop-cost l = l.all.items ≡ map (raised_value l.unit) (take l.cost-index l.costs)
