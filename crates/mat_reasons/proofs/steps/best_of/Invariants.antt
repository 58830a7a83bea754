-- The best step so far is the first of the heaviest of them.
use Rattle.mat_reasons.proofs.Common.{◌<◌, length, map, weight_at, IsFirstHeaviest}
use Rattle.mat_reasons.proofs.steps.best_of.Given as goal

abbrev pub invariant-loop-k : goal.invariant-loop-k
invariant-loop-k l = (l.best < length l.steps) × IsFirstHeaviest (weight_at (map (λ s. s.weight) l.steps)) l.k l.best
