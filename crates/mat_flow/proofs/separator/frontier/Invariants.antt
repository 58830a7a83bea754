use Rattle.mat_flow.proofs.Frontiers.{IsCutting}
use Rattle.mat_flow.proofs.separator.frontier.Given as goal

abbrev pub invariant-loop-v : goal.invariant-loop-v
invariant-loop-v l = IsCutting l.before l.reached l.v-index l.separator
