use Rattle.mat_check.proofs.Common.{[], ap, ◌∙◌, arith, get_or_default, indicator, is_member}
use Rattle.mat_check.proofs.Multiplicities.{counted_next, counted_none}
use Rattle.mat_check.proofs.sets.families.multiplicity.Goals as goal

pub loop-i-init : goal.loop-i-init
loop-i-init c = record { counted = counted_none c.args.e c.args.sets.now; few = omega arith }

pub loop-i-preserved : goal.loop-i-preserved
loop-i-preserved c = record {
  counted = counted_next c.args.e c.args.sets.now c.loop-i.i c.loop-i.count c.loop-i.invariant.counted c.indicator-count.result c.loop-i-test.true
      (c.indicator-count.ensures.is ∙ ap (λ set. indicator (is_member c.args.e set)) (c.index-sets-i.is
      ∙ get_or_default c.args.sets.now c.loop-i.i c.index-sets-i.result [] c.loop-i-test.true));
  few = omega (arith, c.loop-i.invariant.few, c.indicator-count.ensures.small);
}
