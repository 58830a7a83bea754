use Rattle.mat_union.proofs.Common.{◌∙◌, subst, IsRising}
use Rattle.mat_union.proofs.MovedSets.{entering-step, union-nil}
use Rattle.mat_union.proofs.moved_sets.moved_part.Goals as goal

pub loop-i-init : goal.loop-i-init
loop-i-init c = record { start = subst IsRising c.in_ok-set.ensures.set c.in_ok-set.ensures.rises; rises = c.in_ok-set.ensures.rises; is = c.in_ok-set.ensures.set ∙ union-nil _ }

pub loop-i-preserved : goal.loop-i-preserved
loop-i-preserved c = record {
  start = c.loop-i.invariant.start;
  rises = c.add_if.ensures.rises;
  is = entering-step _ c.loop-i.set c.add_if.new.self c.args.moves.now c.args.q c.loop-i.i c.loop-i.invariant.start c.loop-i-test.true c.loop-i.invariant.is c.in_ok-add_if.ensures.ok;
}
