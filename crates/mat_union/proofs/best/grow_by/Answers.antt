use Rattle.mat_union.proofs.Common.{refl, is_member-get_or}
use Rattle.mat_union.proofs.GrowthLoops.{coming_end, coming_more, coming_none, is_unspanned, next_new}
use Rattle.mat_union.proofs.best.grow_by.Goals as goal

pub loop-x-init : goal.loop-x-init
loop-x-init g c = record { growing = c.requires.growing; kept = c.requires.kept; coming = coming_none c.requires.fresh }

pub loop-x-preserved : goal.loop-x-preserved
loop-x-preserved g c = record {
  growing = c.in_ok-grow.ensures.growing;
  kept = c.in_ok-grow.ensures.kept;
  coming = coming_more c.loop-x.invariant.coming c.requires.rises c.loop-x-test.true c.grow.new.growth.parts c.grow.new.growth.spanned c.in_ok-grow.ensures.done c.in_ok-grow.ensures.holds;
}

pub grow-requires-clause-fresh : goal.grow-requires-clause-fresh
grow-requires-clause-fresh g c = (next_new c.loop-x.invariant.coming c.requires.rises c.loop-x-test.true).0

pub grow-requires-clause-unspanned : goal.grow-requires-clause-unspanned
grow-requires-clause-unspanned g c = is_unspanned c.loop-x.invariant.growing _ (c.requires.fresh.below _ (is_member-get_or c.args.elements.now c.loop-x.x-index _ c.loop-x-test.true refl)) (next_new c.loop-x.invariant.coming c.requires.rises c.loop-x-test.true).1

pub returns-clause-done : goal.returns-clause-done
returns-clause-done g c = coming_end c.loop-x.invariant.coming c.loop-x-test.false

pub returns-clause-holds : goal.returns-clause-holds
returns-clause-holds g c = c.loop-x.invariant.coming.holds
