use Rattle.mat_cuts.proofs.Common.{◌∙◌, ◌++◌, ◌∷◌, [], sym, ap, le-ltb, lt-ltb, never, those_below-none, those_below-skip, is_timed}
use Rattle.mat_cuts.proofs.Loops.{those_below-push}
use Rattle.mat_cuts.proofs.growing.timed_arcs.Goals as goal
use Rattle.mat_cuts.proofs.growing.timed_arcs.Goals.{then-since-a-lt-NEVER+in_ok-push, else-since-a-lt-NEVER}

pub loop-a-init : goal.loop-a-init
loop-a-init c = c.new-timed.ensures.items ∙ those_below-none (is_timed c.args.since.now)

pub loop-a-preserved : goal.loop-a-preserved
loop-a-preserved c =
    let a = c.loop-a.a in
    let test = is_timed c.args.since.now in
    elim c.if-since-a-lt-NEVER.branch [
      | then-since-a-lt-NEVER+in_ok-push w ↦ rw w.timed-is
          (w.in_ok-push.ensures.items ∙ ap (λ s. s ++ a ∷ []) c.loop-a.invariant
          ∙ sym (those_below-push a test (lt-ltb _ never w.if-since-a-lt-NEVER.true)))
      | else-since-a-lt-NEVER w ↦ rw w.timed-is
          (c.loop-a.invariant ∙ those_below-skip a test (le-ltb _ never w.if-since-a-lt-NEVER.false))
    ]
