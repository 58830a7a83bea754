use Rattle.mat_check.proofs.Common.{sym, ◌∙◌}
use Rattle.mat_check.proofs.NumberedFailures.{fails_at, passed_next}
use Rattle.mat_check.proofs.RightPackings.{base_clauses}
use Rattle.mat_check.proofs.sets.packings.bases_failure.Goals as goal

pub returns-in-Some : goal.returns-in-Some
returns-in-Some g c =
    fails_at (base_clauses (g.M.Matroid.ground_size c.args.m.now)
    (g.M.Matroid.indep c.args.m.now)) c.args.bases.now c.loop-i.i c.index-bases-i.result
    c.loop-i-test.true c.index-bases-i.is c.loop-i.invariant c.in-Some.failure (sym c.in_ok-failure.ensures ∙ c.in-Some.is)

pub loop-i-preserved : goal.loop-i-preserved
loop-i-preserved g c =
    passed_next (base_clauses (g.M.Matroid.ground_size c.args.m.now)
    (g.M.Matroid.indep c.args.m.now)) c.args.bases.now c.loop-i.i c.index-bases-i.result
    c.loop-i-test.true c.index-bases-i.is c.loop-i.invariant (sym c.in_ok-failure.ensures ∙ c.in_default.is)
