use Rattle.mat_count.proofs.Common.{◌∙◌, get_or, length, sym}
use Rattle.mat_count.proofs.LabelClasses.{classes_by-none, classes_by-pushed}
use Rattle.mat_count.proofs.labels.classes_by.Goals as goal

pub loop-label-init : goal.loop-label-init
loop-label-init c = c.new-classes.ensures.items ∙ sym (classes_by-none (length c.args.labels.now) (λ e. get_or c.args.labels.now e 0))

pub loop-label-preserved : goal.loop-label-preserved
loop-label-preserved c =
    classes_by-pushed (length c.args.labels.now) c.loop-label.label (λ e. get_or c.args.labels.now e 0) c.loop-label.classes.items _ _
    c.in_ok-push.ensures.items c.loop-label.invariant c.in_ok-elements_with.ensures.members
