use Rattle.mat_flow.proofs.Common.{◌-◌}
use Rattle.mat_flow.proofs.FirstGoals.{IsTaking}
use Rattle.mat_flow.proofs.seeking.take_starts.Given as goal

abbrev pub invariant-loop-next : goal.invariant-loop-next
invariant-loop-next g l =
    let r = g.R.SearchGraph in
    IsTaking (r.count l.relation) (r.start l.relation) (r.goal l.relation) (r.count l.relation) l.fn.live l.fn.found.items l.fn.before.items l.from
    l.live l.found.items l.before.items

abbrev pub decreases-loop-next : goal.decreases-loop-next
decreases-loop-next g l = g.R.SearchGraph.count l.relation - l.from
