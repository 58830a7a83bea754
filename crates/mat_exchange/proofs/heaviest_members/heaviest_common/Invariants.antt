use Rattle.mat_exchange.proofs.Common.{◌&&◌, ◌-◌, length, is_member, weight_at, IsHeaviestToOrNone}
use Rattle.mat_exchange.proofs.heaviest_members.heaviest_common.Given as goal

abbrev pub invariant-loop-x : goal.invariant-loop-x
invariant-loop-x l = IsHeaviestToOrNone (λ x. is_member x l.first && is_member x l.second) (weight_at l.weights) l.from l.heaviest

abbrev pub decreases-loop-x : goal.decreases-loop-x
decreases-loop-x l = length l.weights - l.from
