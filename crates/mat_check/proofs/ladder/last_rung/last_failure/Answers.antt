use Rattle.mat_check.proofs.Common.{sym, ◌∙◌}
use Rattle.mat_check.proofs.LastRung.{last_clause_fails, last_clause_holds, last_is}
use Rattle.mat_check.proofs.ladder.last_rung.last_failure.Goals as goal

pub has_addable-requires-clause-below : goal.has_addable-requires-clause-below
has_addable-requires-clause-below g c κs within =
    (c.requires.ranged.each _ _ (last_is c.args.rungs.now c.index-rungs-last.result c.requires.ranged.some)).set_in_range.below

pub returns-then-branch : goal.returns-then-branch
returns-then-branch g c =
    rw c.at.ensures (last_clause_fails (g.M.Matroid.ground_size c.args.m.now) (g.M.Matroid.indep c.args.m.now)
    c.args.rungs.now c.index-rungs-last.result c.requires.ranged.some
    (sym c.in_ok-has_addable.ensures ∙ c.if-branch.true))

pub returns : goal.returns
returns g c =
    last_clause_holds (g.M.Matroid.ground_size c.args.m.now) (g.M.Matroid.indep c.args.m.now)
    c.args.rungs.now c.index-rungs-last.result c.requires.ranged.some
    (sym c.in_ok-has_addable.ensures ∙ c.if-branch.false)
