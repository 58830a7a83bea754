-- The lines so far are printable.
use Rattle.mat_text.specs.Texts.{IsPrintable}
use Rattle.mat_text.proofs.text.Text.filled.Given as goal

abbrev pub invariant-loop-paragraph : goal.invariant-loop-paragraph
invariant-loop-paragraph l = IsPrintable l.out.items
