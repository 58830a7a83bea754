-- Of an empty set there are no words.
use Rattle.std.proofs.Common.{◌≡◌, length}
use Rattle.std.specs.Prelude.{string_len}
use Rattle.mat_text.proofs.called.words_in.Given as goal

abbrev pub invariant-loop-x : goal.invariant-loop-x
invariant-loop-x l = length l.set ≡ 0 → string_len l.words ≡ 0
