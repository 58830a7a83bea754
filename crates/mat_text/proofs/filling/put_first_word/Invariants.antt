-- What is written so far is printable.
use Rattle.mat_text.specs.Texts.{IsPrintable}
use Rattle.mat_text.proofs.filling.put_first_word.Given as goal

abbrev pub invariant-loop-i : goal.invariant-loop-i
invariant-loop-i l = IsPrintable l.out.items
