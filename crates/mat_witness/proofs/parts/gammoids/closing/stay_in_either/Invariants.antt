-- The head of each of the arcs so far whose tail is reached is in one of the sets.
use Rattle.mat_witness.proofs.Common.{◌≡◌, true, take}
use Rattle.std.specs.List.{list_all}
use Rattle.mat_witness.proofs.PathParts.{stays_in_either}
use Rattle.mat_witness.proofs.parts.gammoids.closing.stay_in_either.Given as goal

abbrev pub invariant-loop-i : goal.invariant-loop-i
invariant-loop-i l = list_all (stays_in_either l.reached l.closing) (take l.i l.arcs) ≡ true
