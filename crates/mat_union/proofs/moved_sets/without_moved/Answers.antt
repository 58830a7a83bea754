use Rattle.mat_union.proofs.Common.{◌∙◌}
use Rattle.mat_union.proofs.MovedSets.{without-none, without-more}
use Rattle.mat_union.proofs.moved_sets.without_moved.Goals as goal

pub loop-i-init : goal.loop-i-init
loop-i-init c = record { part = c.in_ok-set.ensures.rises; rises = c.in_ok-set.ensures.set; is = c.in_ok-set.ensures.equal ∙ without-none c.args.part.now c.in_ok-set.ensures.rises }

pub loop-i-preserved : goal.loop-i-preserved
loop-i-preserved c = record {
  part = c.loop-i.invariant.part;
  rises = c.take_out.ensures.rises;
  is = c.take_out.ensures.items ∙ without-more c.args.part.now c.loop-i.set c.args.moves.now c.loop-i.i c.loop-i.invariant.part c.loop-i-test.true c.loop-i.invariant.is;
}
