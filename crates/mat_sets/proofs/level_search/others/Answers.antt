use Rattle.mat_sets.proofs.Common.{sym, ap, not, ◌∙◌, is_member, with_one}
use Rattle.mat_sets.proofs.Rounds.{those_below-none, those_below-put, those_below-skip}
use Rattle.mat_sets.proofs.level_search.others.Goals as goal
use Rattle.mat_sets.proofs.level_search.others.Goals.{then-not-contains+in_ok-add, else-not-contains}

pub loop-v-init : goal.loop-v-init
loop-v-init c = c.new-outside.ensures.members ∙ those_below-none (λ v. not (is_member v c.args.set.now))

pub loop-v-preserved : goal.loop-v-preserved
loop-v-preserved c = elim c.if-not-contains.branch [
  | then-not-contains+in_ok-add w ↦ (let e = w.in_ok-add.ensures.ok in
      w.outside-is ∙ e.1 ∙ ap (λ s. with_one s c.loop-v.v) c.loop-v.invariant
      ∙ those_below-put c.loop-v.v (λ v. not (is_member v c.args.set.now)) (ap not (sym c.contains.ensures ∙ w.if-not-contains.true)))
  | else-not-contains w ↦ w.outside-is ∙ c.loop-v.invariant ∙ those_below-skip c.loop-v.v (λ v. not (is_member v c.args.set.now))
      (ap not (sym c.contains.ensures ∙ w.if-not-contains.false))
]
