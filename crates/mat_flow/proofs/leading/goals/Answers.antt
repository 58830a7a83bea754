use Rattle.mat_flow.proofs.Common.{◌∙◌, sym, ap, with_one, those_below-none, those_below-put, those_below-skip}
use Rattle.mat_flow.proofs.leading.goals.Goals as goal
use Rattle.mat_flow.proofs.leading.goals.Goals.{then-is_goal+in_ok-insert, else-is_goal}

pub loop-v-init : goal.loop-v-init
loop-v-init g c = c.in_ok-found.ensures ∙ those_below-none (g.R.SearchGraph.goal c.args.relation.now)

pub loop-v-preserved : goal.loop-v-preserved
loop-v-preserved g c =
    let test = g.R.SearchGraph.goal c.args.relation.now in
    elim c.if-is_goal.branch [
      | then-is_goal+in_ok-insert w ↦ w.found-is ∙ w.in_ok-insert.ensures.ok ∙ ap (λ s. with_one s c.loop-v.v) c.loop-v.invariant
          ∙ those_below-put c.loop-v.v test (sym c.is_goal.ensures ∙ w.if-is_goal.true)
      | else-is_goal w ↦ w.found-is ∙ c.loop-v.invariant ∙ those_below-skip c.loop-v.v test (sym c.is_goal.ensures ∙ w.if-is_goal.false)
    ]
