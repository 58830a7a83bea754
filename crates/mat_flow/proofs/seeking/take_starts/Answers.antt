use Rattle.mat_flow.proofs.Common.{◌≡◌, ◌∙◌, length, rules, sym, vec_len}
use Rattle.mat_flow.proofs.FirstGoals.{followed_more, goal_taken, IsTaking-more}
use Rattle.mat_flow.proofs.seeking.take_starts.Goals as goal

pub returns-then-is_goal-clause-take : goal.returns-then-is_goal-clause-take
returns-then-is_goal-clause-take g c =
    let r = g.R.SearchGraph in
    let of = c.args.relation.now in
    let size : vec_len c.args.before.now ≡ length c.args.before.now.items = search rules in
    let none : c.len-none.result ≡ r.count of = c.len-none.ensures ∙ size ∙ c.requires.long in
    rw (c.remove.ensures, c.in_ok-push.ensures.items, none)
    (goal_taken _ (r.start of) (r.goal of) _ _ _ _ _ _ _ _ c.requires.live c.requires.long c.loop-next.invariant _ c.in-Some.ensures
    (sym c.is_goal.ensures ∙ c.if-is_goal.true))

pub returns-then-is_goal-clause-more : goal.returns-then-is_goal-clause-more
returns-then-is_goal-clause-more g c =
    let r = g.R.SearchGraph in
    let of = c.args.relation.now in
    rw c.in_ok-push.ensures.items
    (followed_more _ (r.start of) (r.goal of) _ _ _ _ _ _ _ _ c.requires.live c.requires.long c.loop-next.invariant _ c.in-Some.ensures)

pub loop-next-preserved : goal.loop-next-preserved
loop-next-preserved g c =
    let r = g.R.SearchGraph in
    let of = c.args.relation.now in
    let size : vec_len c.args.before.now ≡ length c.args.before.now.items = search rules in
    let none : c.len-none.result ≡ r.count of = c.len-none.ensures ∙ size ∙ c.requires.long in
    rw (c.remove.ensures, c.in_ok-push.ensures.items, none)
    (IsTaking-more _ (r.start of) (r.goal of) _ _ _ _ _ _ _ _ c.requires.live c.requires.long c.loop-next.invariant _ c.in-Some.ensures
    (sym c.is_goal.ensures ∙ c.if-is_goal.false))
