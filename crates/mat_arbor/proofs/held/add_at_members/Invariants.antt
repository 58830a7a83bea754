use Rattle.mat_arbor.proofs.Common.{length, take, is_member, IsAdded}
use Rattle.mat_arbor.proofs.held.add_at_members.Given as goal

abbrev pub invariant-loop-v : goal.invariant-loop-v
invariant-loop-v l = IsAdded (length l.fn.sums.items) (λ v. is_member v (take l.v-index l.set)) l.weight l.fn.sums.items l.sums.items
