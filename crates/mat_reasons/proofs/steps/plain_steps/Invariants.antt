-- Each rung so far has its step.
use Rattle.mat_reasons.proofs.Common.{◌≡◌, None, map, take}
use Rattle.mat_reasons.proofs.steps.plain_steps.Given as goal

abbrev pub invariant-loop-rung : goal.invariant-loop-rung
invariant-loop-rung l = (map (λ s. s.weight) l.steps.items ≡ map (λ r. r.weight) (take l.rung-index l.rungs))
    × (map (λ s. s.set.now) l.steps.items ≡ map (λ r. r.set) (take l.rung-index l.rungs))
    × (map (λ s. s.shares) l.steps.items ≡ map (λ r. None) (take l.rung-index l.rungs))
