use Rattle.mat_exchange.proofs.Common.{ap, ◌∙◌, negated, weight_at}
use Rattle.mat_exchange.proofs.HeaviestMembers.{level_after, low_after, sink_not_late}
use Rattle.mat_exchange.proofs.steps.next_step.Goals as goal

pub returns-in-Some-is_before : goal.returns-in-Some-is_before
returns-in-Some-is_before c =
    let before = c.in-Some-is_before.ensures in
    let g = weight_at c.args.fringe.now.gains in
    let top = c.in-Some.ensures.heaviest in (
      before.0,
      λ y m. sink_not_late (g y) (g c.in-Some.x) c.neg-step.result c.in-Some-is_before.earlier
          (top.most y m) (c.neg-step.ensures ∙ ap negated c.gain.ensures) before.1,
    )

pub returns-in-None-is_before : goal.returns-in-None-is_before
returns-in-None-is_before c =
    let x = c.in-Some.x in
    let g = weight_at c.args.fringe.now.gains in
    let step = c.neg-step.result in
    let is = c.neg-step.ensures ∙ ap negated c.gain.ensures in
    let top = c.in-Some.ensures.heaviest in (
      top.passes,
      level_after (g x) step is,
      λ y m. low_after (g y) (g x) step (top.most y m) is,
      c.in-None-is_before.ensures,
    )
