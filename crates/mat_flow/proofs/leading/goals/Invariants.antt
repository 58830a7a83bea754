use Rattle.mat_flow.proofs.Common.{◌≡◌, those_below}
use Rattle.mat_flow.proofs.leading.goals.Given as goal

abbrev pub invariant-loop-v : goal.invariant-loop-v
invariant-loop-v g l = l.found ≡ those_below l.v (g.R.SearchGraph.goal l.relation)
