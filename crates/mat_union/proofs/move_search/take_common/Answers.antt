use Rattle.mat_union.proofs.Taking.{taken_all, taken_more, taken_none, without-shorter}
use Rattle.mat_union.proofs.Common.{and_parts, is_member}
use Rattle.mat_union.proofs.move_search.take_common.Goals as goal

pub loop-v-init : goal.loop-v-init
loop-v-init c = taken_none _ _ _

pub loop-v-preserved : goal.loop-v-preserved
loop-v-preserved c = rw (c.remove.ensures, c.in_ok-push.ensures.items) (taken_more c.loop-v.invariant c.in-Some.v c.in-Some.ensures)

pub loop-v-smaller : goal.loop-v-smaller
loop-v-smaller c = rw c.remove.ensures (without-shorter c.loop-v.unreached c.in-Some.v (and_parts (is_member c.in-Some.v c.loop-v.unreached) (is_member c.in-Some.v c.args.pushes.now) c.in-Some.ensures.passes).0)

pub returns : goal.returns
returns c = taken_all c.loop-v.invariant c.in_default.ensures
