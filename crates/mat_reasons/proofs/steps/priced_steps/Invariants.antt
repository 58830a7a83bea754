-- Each rung so far has its step.
use Rattle.mat_reasons.proofs.Common.{◌≡◌, length, map, take}
use Rattle.mat_reasons.proofs.steps.priced_steps.Given as goal

abbrev pub invariant-loop-k : goal.invariant-loop-k
invariant-loop-k l = (length l.steps.items ≡ l.k)
    × (map (λ s. s.weight) l.steps.items ≡ map (λ r. r.weight) (take l.k l.rungs))
    × (map (λ s. s.set.now) l.steps.items ≡ map (λ r. r.set) (take l.k l.rungs))
