-- The numbers so far that stand in no set.
use Rattle.std.proofs.Common.{◌≡◌, not}
use Rattle.std.specs.List.{list_any}
use Rattle.mat_sets.specs.Search.{those_below}
use Rattle.mat_sets.specs.Sets.{is_member}
use Rattle.mat_text.proofs.parts.outside.Given as goal

abbrev pub invariant-loop-e : goal.invariant-loop-e
invariant-loop-e l = l.rest ≡ those_below l.e (λ x. not (list_any (is_member x) l.sets))
