-- What is written so far is printable, and less is left each time.
use Rattle.std.proofs.Common.{length}
use Rattle.mat_text.specs.Texts.{IsPrintable}
use Rattle.mat_text.proofs.filling.put_paragraph.Given as goal

abbrev pub invariant-loop-word : goal.invariant-loop-word
invariant-loop-word l = IsPrintable l.out.items

abbrev pub decreases-loop-word : goal.decreases-loop-word
decreases-loop-word l = length l.left
