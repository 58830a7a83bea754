-- A part that is shared has at least so many bytes.
use Rattle.std.proofs.Common.{ℕ, ◌≤◌, List, length}
use Rattle.mat_words.specs.NameLists.{names_of}
use Rattle.mat_text.specs.Shared.{IsShared}
use Rattle.mat_text.proofs.shared.first_part.Given as goal

abbrev pub invariant-loop-count : goal.invariant-loop-count
invariant-loop-count l = (part : List ℕ) → IsShared (names_of l.names) l.set l.side part → l.count ≤ length part
