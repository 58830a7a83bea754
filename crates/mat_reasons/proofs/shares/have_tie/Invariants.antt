-- None of the weights so far has a tie.
use Rattle.mat_reasons.proofs.Common.{◌≡◌, false, take, has_tie}
use Rattle.std.specs.List.{list_any}
use Rattle.mat_reasons.proofs.shares.have_tie.Given as goal

abbrev pub invariant-loop-i : goal.invariant-loop-i
invariant-loop-i l = list_any has_tie (take l.i l.weights) ≡ false
