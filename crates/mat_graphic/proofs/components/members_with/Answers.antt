use Rattle.mat_graphic.proofs.Common.{ℕ, ◌∙◌, ap, eqb, get_or, eq-eqb, ne_eqb, with_one, those_below-none, those_below-put, those_below-skip}
use Rattle.mat_graphic.proofs.components.members_with.Goals as goal
use Rattle.mat_graphic.proofs.components.members_with.Goals.{then-least-v+in_ok-add, else-least-v}

pub loop-v-init : goal.loop-v-init
loop-v-init c = c.new-set.ensures.members ∙ those_below-none (λ v. eqb (get_or c.args.least.now v 0) c.args.root)

pub loop-v-preserved : goal.loop-v-preserved
loop-v-preserved c =
    let test = λ (v : ℕ). eqb (get_or c.args.least.now v 0) c.args.root in
    elim c.if-least-v.branch [
      | then-least-v+in_ok-add w ↦
          w.set-is ∙ w.in_ok-add.ensures.ok.1 ∙ ap (λ s. with_one s c.loop-v.v) c.loop-v.invariant
          ∙ those_below-put c.loop-v.v test (eq-eqb _ _ w.if-least-v.true)
      | else-least-v w ↦ w.set-is ∙ c.loop-v.invariant ∙ those_below-skip c.loop-v.v test (ne_eqb _ _ w.if-least-v.false)
    ]
