-- The paragraphs that were there stand at their places.
use Rattle.mat_text.specs.Paragraphs.{KeepsParagraphs}
use Rattle.mat_reasons.proofs.ladder.tell_reasons.Given as goal

abbrev pub invariant-loop-k : goal.invariant-loop-k
invariant-loop-k g l = KeepsParagraphs l.initial.text l.text
