use Rattle.std.proofs.Common.{[], ap, ◌∙◌}
use Rattle.mat_laws.proofs.GreedyRunSets.{run_ends}
use Rattle.mat_calls.proofs.known.told.Goals as goal

-- What a run ends with is independent.
pub told_sets-requires-clause-taken : goal.told_sets-requires-clause-taken
told_sets-requires-clause-taken g c κs within =
    ap (g.M.Matroid.indep c.args.m.now) c.in_ok-base.ensures
    ∙ (run_ends c.lawful.ensures [] c.args.order.now c.lawful.ensures.empty).passes
