use Rattle.std.proofs.Common.{subst, sym}
use Rattle.mat_sets.specs.Sets.{AllBelow}
use Rattle.mat_sets.proofs.Changes.{AllBelow-with_one}
use Rattle.mat_sets.proofs.Sums.{AllBelow-at}
use Rattle.mat_calls.proofs.routes.set_below.Goals as goal

pub loop-x-preserved : goal.loop-x-preserved
loop-x-preserved c =
    let below = AllBelow-at c.args.n c.args.members.now c.loop-x.x-index c.requires c.loop-x-test.true in
    subst (AllBelow c.args.n) (sym c.in_ok-add.ensures.ok.1) (AllBelow-with_one c.args.n c.loop-x.set _ c.loop-x.invariant below)
