use Rattle.mat_check.proofs.Common.{map, sym, ◌∙◌}
use Rattle.mat_check.proofs.LevelFailures.{level_fails, level_fails_inside, level_is_clear}
use Rattle.mat_check.proofs.sets.levels.level_failure.Goals as goal

pub returns-in-Some : goal.returns-in-Some
returns-in-Some g c =
    let joined = c.args.joined.now in
    level_fails_inside (map g.M.Matroid.indep joined.matroids.now) joined.weights.now joined.parts.now c.args.j c.args.level.now c.args.falling.now
    c.requires.falling (sym c.is_at.ensures ∙ c.if-not-is_at.false) c.in-Some.failure (sym c.outside_failure.ensures ∙ c.in-Some.is)

pub returns-then-not-branch : goal.returns-then-not-branch
returns-then-not-branch g c =
    let joined = c.args.joined.now in
    rw c.at-then-not-branch.ensures (level_fails (map g.M.Matroid.indep joined.matroids.now) joined.weights.now joined.parts.now c.args.j
    c.args.level.now c.args.falling.now c.requires.falling (sym c.is_at.ensures ∙ c.if-not-is_at.false) joined.all.now c.requires.all
    (sym c.outside_failure.ensures ∙ c.in_default.is) (sym c.in_ok-is_cut_filled.ensures ∙ c.if-not-branch.true))

pub returns : goal.returns
returns g c =
    let joined = c.args.joined.now in
    level_is_clear (map g.M.Matroid.indep joined.matroids.now) joined.weights.now joined.parts.now c.args.j c.args.level.now c.args.falling.now
    c.requires.falling (sym c.is_at.ensures ∙ c.if-not-is_at.false) joined.all.now c.requires.all
    (sym c.outside_failure.ensures ∙ c.in_default.is) (sym c.in_ok-is_cut_filled.ensures ∙ c.if-not-branch.false)
