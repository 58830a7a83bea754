use Rattle.std.proofs.Common.{subst, sym, ◌∙◌}
use Rattle.mat_sets.specs.Sets.{AllBelow}
use Rattle.mat_sets.proofs.Changes.{AllBelow-with_one}
use Rattle.mat_calls.proofs.routes.set_of_bits.Goals as goal
use Rattle.mat_calls.proofs.routes.set_of_bits.Goals.{then-rest-eq1+in_ok-add, else-rest-eq1}

-- The set has x more, or is as it was.
pub loop-x-preserved : goal.loop-x-preserved
loop-x-preserved c = elim c.if-rest-eq1.branch [
  | then-rest-eq1+in_ok-add w ↦ subst (AllBelow c.args.n) (sym (w.set-is ∙ w.in_ok-add.ensures.ok.1))
      (AllBelow-with_one c.args.n c.loop-x.set c.loop-x.x c.loop-x.invariant c.loop-x-test.true)
  | else-rest-eq1 w ↦ subst (AllBelow c.args.n) (sym w.set-is) c.loop-x.invariant
]
