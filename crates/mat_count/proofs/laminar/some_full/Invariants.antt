use Rattle.mat_count.proofs.Common.{◌≡◌, [], take, is_full}
use Rattle.std.specs.List.{filter}
use Rattle.mat_count.proofs.laminar.some_full.Given as goal

abbrev pub invariant-loop-i : goal.invariant-loop-i
invariant-loop-i l = [] ≡ filter (is_full l.caps l.numbers) (take l.i-index l.places)
