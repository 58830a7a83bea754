-- The paragraphs that were there stand at their places.
use Rattle.mat_text.specs.Paragraphs.{KeepsParagraphs}
use Rattle.mat_text.proofs.groups.tell_groups.Given as goal

abbrev pub invariant-loop-group : goal.invariant-loop-group
invariant-loop-group l = KeepsParagraphs l.initial.text l.text
