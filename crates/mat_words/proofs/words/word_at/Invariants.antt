use Rattle.mat_words.proofs.WordLemmas.{IsPassed}
use Rattle.mat_words.proofs.words.word_at.Given as goal

abbrev pub invariant-loop : goal.invariant-loop
invariant-loop l = IsPassed l.line l.rest l.counter
