use Rattle.mat_count.proofs.Common.{ℕ, ◌∙◌, ap, get_or, sym, with_one}
use Rattle.mat_count.proofs.LabelClasses.{labelled_start, labelled_more, labelled_less}
use Rattle.mat_count.proofs.labels.elements_with.Goals as goal
use Rattle.mat_count.proofs.labels.elements_with.Goals.{then-labels-e+in_ok-add, else-labels-e}

pub loop-e-init : goal.loop-e-init
loop-e-init c = c.new-set.ensures.members ∙ sym (labelled_start (λ e. get_or c.args.labels.now e 0) c.args.label)

pub loop-e-preserved : goal.loop-e-preserved
loop-e-preserved c =
    let label = λ (e : ℕ). get_or c.args.labels.now e 0 in
    elim c.if-labels-e.branch [
      | then-labels-e+in_ok-add w ↦
          w.set-is ∙ w.in_ok-add.ensures.ok.1 ∙ ap (λ s. with_one s c.loop-e.e) c.loop-e.invariant
          ∙ labelled_more c.loop-e.e label c.args.label w.if-labels-e.true
      | else-labels-e w ↦ w.set-is ∙ c.loop-e.invariant ∙ labelled_less c.loop-e.e label c.args.label w.if-labels-e.false
    ]
