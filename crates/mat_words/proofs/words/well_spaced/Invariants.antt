use Rattle.mat_words.proofs.Common.{◌≡◌, drop, true}
use Rattle.mat_words.proofs.WordLemmas.{spaced_from}
use Rattle.mat_words.proofs.words.well_spaced.Given as goal

abbrev pub invariant-loop-b : goal.invariant-loop-b
invariant-loop-b l = spaced_from l.at_start (drop l.b-index l.line) ≡ spaced_from true l.line
