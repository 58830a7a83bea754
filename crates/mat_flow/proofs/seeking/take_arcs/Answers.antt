use Rattle.mat_flow.proofs.Common.{◌∙◌, sym}
use Rattle.mat_flow.proofs.FirstGoals.{followed_more, goal_taken, IsTaking-more}
use Rattle.mat_flow.proofs.seeking.take_arcs.Goals as goal

pub returns-then-is_goal-clause-take : goal.returns-then-is_goal-clause-take
returns-then-is_goal-clause-take g c =
    let r = g.R.SearchGraph in
    let of = c.args.relation.now in
    rw (c.remove.ensures, c.in_ok-push.ensures.items)
    (goal_taken _ (r.arc of c.args.u) (r.goal of) _ _ _ _ _ _ _ _ c.requires.live c.requires.long c.loop-next.invariant _ c.in-Some.ensures
    (sym c.is_goal.ensures ∙ c.if-is_goal.true))

pub returns-then-is_goal-clause-more : goal.returns-then-is_goal-clause-more
returns-then-is_goal-clause-more g c =
    let r = g.R.SearchGraph in
    let of = c.args.relation.now in
    rw c.in_ok-push.ensures.items
    (followed_more _ (r.arc of c.args.u) (r.goal of) _ _ _ _ _ _ _ _ c.requires.live c.requires.long c.loop-next.invariant _ c.in-Some.ensures)

pub loop-next-preserved : goal.loop-next-preserved
loop-next-preserved g c =
    let r = g.R.SearchGraph in
    let of = c.args.relation.now in
    rw (c.remove.ensures, c.in_ok-push.ensures.items)
    (IsTaking-more _ (r.arc of c.args.u) (r.goal of) _ _ _ _ _ _ _ _ c.requires.live c.requires.long c.loop-next.invariant _ c.in-Some.ensures
    (sym c.is_goal.ensures ∙ c.if-is_goal.false))
