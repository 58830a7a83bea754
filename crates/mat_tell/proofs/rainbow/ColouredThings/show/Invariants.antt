-- The paragraphs that were there stand at their places.
use Rattle.mat_text.specs.Paragraphs.{KeepsParagraphs}
use Rattle.mat_tell.proofs.rainbow.ColouredThings.show.Given as goal

abbrev pub invariant-loop-e : goal.invariant-loop-e
invariant-loop-e l = KeepsParagraphs l.initial.text l.text
