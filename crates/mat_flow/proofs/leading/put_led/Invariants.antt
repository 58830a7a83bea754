use Rattle.mat_flow.proofs.Common.{AreLedFrom}
use Rattle.mat_flow.proofs.leading.put_led.Given as goal

abbrev pub invariant-loop-u : goal.invariant-loop-u
invariant-loop-u g l = AreLedFrom l.count (g.R.SearchGraph.arc l.relation) l.u l.fn.leading l.leading l.came
