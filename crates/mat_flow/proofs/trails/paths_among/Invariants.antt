use Rattle.mat_flow.proofs.Common.{take, AreTrails}
use Rattle.mat_flow.proofs.trails.paths_among.Given as goal

abbrev pub invariant-loop-v : goal.invariant-loop-v
invariant-loop-v l = AreTrails l.before l.after (take l.v-index l.among) l.paths.items
