use Rattle.mat_flow.proofs.Common.{◌-◌}
use Rattle.mat_flow.proofs.FirstGoals.{IsLooking}
use Rattle.mat_flow.proofs.seeking.SearchRoom.seek.Given as goal

-- the arcs from the first vertices that were found are looked at
abbrev pub invariant-loop-self : goal.invariant-loop-self
invariant-loop-self g l =
    let r = g.R.SearchGraph in
    IsLooking (r.count l.relation) (r.arc l.relation) (r.start l.relation) (r.goal l.relation) l.fn.self.live l.at l.self.live l.self.found.items
    l.self.before.items l.goal

abbrev pub decreases-loop-self : goal.decreases-loop-self
decreases-loop-self g l = g.R.SearchGraph.count l.relation - l.at
