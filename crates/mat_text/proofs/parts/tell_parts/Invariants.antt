-- The paragraphs that were there stand at their places.
use Rattle.mat_text.specs.Paragraphs.{KeepsParagraphs}
use Rattle.mat_text.proofs.parts.tell_parts.Given as goal

abbrev pub invariant-loop-i : goal.invariant-loop-i
invariant-loop-i l = KeepsParagraphs l.initial.text l.text
