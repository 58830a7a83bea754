use Rattle.mat_cuts.proofs.Common.{ap, eqb, ◌∙◌, eq-eqb, ne_eqb, with_one, those_below-none, those_below-put, those_below-skip, at}
use Rattle.mat_cuts.proofs.joining.at_place.Goals as goal
use Rattle.mat_cuts.proofs.joining.at_place.Goals.{then-place-v+in_ok-add, else-place-v}

pub loop-v-init : goal.loop-v-init
loop-v-init c = c.new-part.ensures.members ∙ those_below-none (λ v. eqb (at c.args.place.now v) c.args.last)

pub loop-v-preserved : goal.loop-v-preserved
loop-v-preserved c = elim c.if-place-v.branch [
  | then-place-v+in_ok-add w ↦ (let e = w.in_ok-add.ensures.ok in
      w.part-is ∙ e.1 ∙ ap (λ s. with_one s c.loop-v.v) c.loop-v.invariant
      ∙ those_below-put c.loop-v.v (λ v. eqb (at c.args.place.now v) c.args.last) (eq-eqb _ _ w.if-place-v.true))
  | else-place-v w ↦ w.part-is ∙ c.loop-v.invariant ∙ those_below-skip c.loop-v.v (λ v. eqb (at c.args.place.now v) c.args.last) (ne_eqb _ _ w.if-place-v.false)
]
