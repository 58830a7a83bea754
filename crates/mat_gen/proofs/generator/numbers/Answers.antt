use Rattle.mat_gen.proofs.Common.{◌+◌, ◌*◌, ◌∙◌, ap, arith, state_after, draw}
use Rattle.mat_gen.proofs.Draws.{draw_made, drawn_more, drawn_none, state_next}
use Rattle.mat_gen.proofs.generator.numbers.Goals as goal

pub loop-init : goal.loop-init
loop-init c =
    let args = c.args in (
      c.state_behind-before.ensures.state ∙ ap (state_after args.seed) (omega arith),
      c.state_behind-before.ensures.below,
      drawn_none (λ e. draw args.seed (args.each * e + args.place) args.below) _ c.new-numbers.ensures.items,
    )

pub loop-preserved : goal.loop-preserved
loop-preserved c =
    let args = c.args in
    let e = c.loop.counter in
    let place = args.place in
    let before = c.loop.invariant.0 in (
      state_next args.seed args.each e place _ _ before c.state_behind-before-in-loop.ensures.state,
      c.state_behind-before-in-loop.ensures.below,
      c.in_ok-push.ensures.items ∙ drawn_more (λ i. draw args.seed (args.each * i + place) args.below) e _ _ c.loop.invariant.2
          (draw_made args.seed (args.each * e + place) _ _ _ _ before c.state_behind-state.ensures.state c.from.ensures),
    )
