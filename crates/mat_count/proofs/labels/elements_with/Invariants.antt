use Rattle.mat_count.proofs.Common.{◌≡◌, get_or, labelled}
use Rattle.mat_count.proofs.labels.elements_with.Given as goal

-- the elements with the label before place e
abbrev pub invariant-loop-e : goal.invariant-loop-e
invariant-loop-e l = l.set ≡ labelled l.e (λ e. get_or l.labels e 0) l.label
