-- None of the sets so far holds it.
use Rattle.std.proofs.Common.{◌≡◌, false, take}
use Rattle.std.specs.List.{list_any}
use Rattle.mat_sets.specs.Sets.{is_member}
use Rattle.mat_text.proofs.parts.is_in_some.Given as goal

abbrev pub invariant-loop-i : goal.invariant-loop-i
invariant-loop-i l = list_any (is_member l.e) (take l.i l.sets) ≡ false
