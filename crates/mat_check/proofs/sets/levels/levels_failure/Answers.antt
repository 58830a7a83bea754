use Rattle.mat_check.proofs.Common.{length, map, sym, ◌∙◌, level_clauses}
use Rattle.mat_check.proofs.NumberedFailures.{fails_at, passed_next}
use Rattle.mat_check.proofs.sets.levels.levels_failure.Goals as goal

pub returns-in-Some : goal.returns-in-Some
returns-in-Some g c =
    let joined = c.args.joined.now in
    fails_at (level_clauses (length joined.weights.now)
    (map g.M.Matroid.indep joined.matroids.now) joined.weights.now joined.parts.now) c.args.levels.now
    c.loop-j.j c.index-levels-j.result c.loop-j-test.true c.index-levels-j.is c.loop-j.invariant c.in-Some.failure
    (sym c.in_ok-failure.ensures ∙ c.in-Some.is)

pub loop-j-preserved : goal.loop-j-preserved
loop-j-preserved g c =
    let joined = c.args.joined.now in
    passed_next (level_clauses (length joined.weights.now)
    (map g.M.Matroid.indep joined.matroids.now) joined.weights.now joined.parts.now) c.args.levels.now
    c.loop-j.j c.index-levels-j.result c.loop-j-test.true c.index-levels-j.is c.loop-j.invariant (sym c.in_ok-failure.ensures ∙ c.in_default.is)
