use Rattle.mat_linked.proofs.Common.{◌≡◌, map, take, entry_without}
use Rattle.mat_linked.proofs.kept_matching.matched_without.Given as goal

-- what is left at the first indices
abbrev pub invariant-loop-entry : goal.invariant-loop-entry
invariant-loop-entry l = l.left.items ≡ map (entry_without l.gone) (take l.entry-index l.matched)
