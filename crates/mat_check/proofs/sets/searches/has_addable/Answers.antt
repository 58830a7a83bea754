use Rattle.mat_check.proofs.Common.{subst, ◌<◌}
use Rattle.mat_check.proofs.Adding.{IsTrying-start, IsTrying-found, IsTrying-next}
use Rattle.mat_check.proofs.sets.searches.has_addable.Goals as goal

pub loop-x-init : goal.loop-x-init
loop-x-init g c = IsTrying-start (g.M.Matroid.indep c.args.m.now) c.args.set.now c.in_ok-larger.larger c.in_ok-larger.ensures.equal

pub returns-then-branch : goal.returns-then-branch
returns-then-branch g c =
    IsTrying-found (g.M.Matroid.indep c.args.m.now) c.args.set.now c.loop-x.larger c.loop-x.x c.loop-x.invariant _ _
    (subst (λ m. c.loop-x.x < m) c.size-x-end.ensures c.loop-x-test.true) c.in_ok-add_if_independent.ensures.added c.if-branch.true

pub loop-x-preserved : goal.loop-x-preserved
loop-x-preserved g c =
    IsTrying-next (g.M.Matroid.indep c.args.m.now) c.args.set.now c.loop-x.larger c.loop-x.x c.loop-x.invariant _ _
    c.in_ok-add_if_independent.ensures.added c.in_ok-add_if_independent.ensures.set c.if-branch.false
