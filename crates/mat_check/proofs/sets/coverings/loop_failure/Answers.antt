use Rattle.mat_check.proofs.Common.{[], sym, ◌∙◌, loop_clause}
use Rattle.mat_check.proofs.FailingClauses.{first_of_failing, first_of_holding}
use Rattle.mat_check.proofs.sets.coverings.loop_failure.Goals as goal

pub returns-then-branch : goal.returns-then-branch
returns-then-branch g c =
    sym (first_of_holding (loop_clause (g.M.Matroid.indep c.args.m.now) c.args.x) [] (sym c.in_ok-is_loop.ensures ∙ c.if-branch.true))

pub returns : goal.returns
returns g c =
    rw c.at.ensures (sym (first_of_failing (loop_clause (g.M.Matroid.indep c.args.m.now) c.args.x) [] (sym c.in_ok-is_loop.ensures ∙ c.if-branch.false)))
