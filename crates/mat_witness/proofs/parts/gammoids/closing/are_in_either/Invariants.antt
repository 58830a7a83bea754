-- Each of the items so far is a member of one of the sets.
use Rattle.mat_witness.proofs.Common.{◌≡◌, true, take, is_in_either}
use Rattle.std.specs.List.{list_all}
use Rattle.mat_witness.proofs.parts.gammoids.closing.are_in_either.Given as goal

abbrev pub invariant-loop-v : goal.invariant-loop-v
invariant-loop-v l = list_all (is_in_either l.reached l.closing) (take l.v-index l.items) ≡ true
