use Rattle.mat_count.proofs.Common.{◌≡◌, length, get_or}
use Rattle.mat_count.specs.Labels.{classes_by as classes}
use Rattle.mat_count.proofs.labels.classes_by.Given as goal

-- the classes of the labels so far
abbrev pub invariant-loop-label : goal.invariant-loop-label
invariant-loop-label l = l.classes.items ≡ classes (length l.labels) l.label (λ e. get_or l.labels e 0)
