use Rattle.mat_exchange.proofs.Common.{◌*◌, is_member, weight_at, IsHeaviestToOrNone}
use Rattle.mat_exchange.proofs.heaviest_members.heaviest_member.Given as goal

abbrev pub invariant-loop-at : goal.invariant-loop-at
invariant-loop-at l = IsHeaviestToOrNone (λ x. is_member x l.members) (weight_at l.weights) (l.at * 64) l.heaviest
