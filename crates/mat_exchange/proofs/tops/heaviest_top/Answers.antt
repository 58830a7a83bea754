use Rattle.mat_exchange.proofs.Common.{arith, weight_at, top_at}
use Rattle.mat_exchange.proofs.HeaviestMembers.{heaviest_to_below, heaviest_to_bucket}
use Rattle.mat_exchange.proofs.FringeTops.{heaviest_of_all, tops_below}
use Rattle.mat_exchange.proofs.tops.heaviest_top.Goals as goal

pub loop-at-init : goal.loop-at-init
loop-at-init c = λ members h x l. absurd (omega arith)

pub heavier_of_both-heaviest-requires-clause-heaviest : goal.heavier_of_both-heaviest-requires-clause-heaviest
heavier_of_both-heaviest-requires-clause-heaviest c =
    heaviest_to_below _ _ _ _ _ c.requires.1.below (c.loop-at.invariant c.requires.0 c.requires.1)

pub heavier_of_both-heaviest-requires-clause-other : goal.heavier_of_both-heaviest-requires-clause-other
heavier_of_both-heaviest-requires-clause-other c = tops_below c.requires.1 c.loop-at.at

pub loop-at-preserved : goal.loop-at-preserved
loop-at-preserved c = λ members h.
    let at = c.loop-at.at in
    rw c.heavier_of_both-heaviest.ensures (heaviest_to_bucket members (weight_at c.args.gains.now) at c.loop-at.heaviest (top_at c.args.tops.now at)
    (c.loop-at.invariant members h) (h.each at))

pub returns : goal.returns
returns c = λ members h. heaviest_of_all c.loop-at.at c.loop-at.heaviest h (omega arith) (c.loop-at.invariant members h)
