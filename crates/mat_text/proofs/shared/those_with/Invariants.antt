-- The elements so far whose names have the part.
use Rattle.std.proofs.Common.{◌≡◌, [], get_or}
use Rattle.mat_sets.specs.Search.{those_below}
use Rattle.mat_words.specs.NameLists.{names_of}
use Rattle.mat_text.specs.Shared.{has_part}
use Rattle.mat_text.proofs.shared.those_with.Given as goal

abbrev pub invariant-loop-e : goal.invariant-loop-e
invariant-loop-e l = l.set ≡ those_below l.e (λ e. has_part l.side l.part (get_or (names_of l.names) e []))
