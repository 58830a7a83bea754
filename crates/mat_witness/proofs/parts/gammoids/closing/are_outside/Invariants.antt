-- None of the items so far is a member.
use Rattle.mat_witness.proofs.Common.{◌≡◌, true, not, take, is_member}
use Rattle.std.specs.List.{list_all}
use Rattle.mat_witness.proofs.parts.gammoids.closing.are_outside.Given as goal

abbrev pub invariant-loop-v : goal.invariant-loop-v
invariant-loop-v l = list_all (λ v. not (is_member v l.set)) (take l.v-index l.items) ≡ true
