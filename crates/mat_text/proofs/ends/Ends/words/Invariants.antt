-- Of an empty set there are no words.
use Rattle.std.proofs.Common.{◌≡◌, length}
use Rattle.std.specs.Prelude.{string_len}
use Rattle.mat_text.proofs.ends.Ends.words.Given as goal

abbrev pub invariant-loop-e : goal.invariant-loop-e
invariant-loop-e l = length l.set ≡ 0 → string_len l.words ≡ 0
