-- All names so far have two parts.
use Rattle.std.proofs.Common.{◌≡◌, true, take}
use Rattle.std.specs.List.{list_all}
use Rattle.mat_words.specs.NameLists.{names_of}
use Rattle.mat_text.specs.Shared.{has_two_parts}
use Rattle.mat_text.proofs.shared.have_two_parts.Given as goal

abbrev pub invariant-loop-i : goal.invariant-loop-i
invariant-loop-i l = list_all has_two_parts (take l.i (names_of l.names)) ≡ true
