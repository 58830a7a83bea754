-- The bytes so far are printable.
use Rattle.std.proofs.Common.{take}
use Rattle.mat_text.specs.Texts.{IsPrintable}
use Rattle.mat_text.proofs.filling.run.Given as goal

abbrev pub invariant-loop-i : goal.invariant-loop-i
invariant-loop-i l = IsPrintable (take l.i l.text)
