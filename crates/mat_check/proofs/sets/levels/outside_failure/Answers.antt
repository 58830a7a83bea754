use Rattle.mat_check.proofs.Common.{length, sym, subst, AllBelow, AllBelow-at}
use Rattle.mat_check.proofs.sets.levels.outside_failure.Goals as goal

pub is_lighter-requires : goal.is_lighter-requires
is_lighter-requires c =
    AllBelow-at (length c.args.weights.now) c.as_slice-e-items.result.now c.loop-e.e-index
    (subst (AllBelow (length c.args.weights.now)) (sym c.as_slice-e-items.ensures.items) c.requires) c.loop-e-test.true
