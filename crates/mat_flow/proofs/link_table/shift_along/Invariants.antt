use Rattle.mat_flow.proofs.LinkTables.{IsShifting}
use Rattle.mat_flow.proofs.link_table.shift_along.Given as goal

abbrev pub invariant-loop-v : goal.invariant-loop-v
invariant-loop-v l = IsShifting l.fn.first l.walk l.fn.table.items l.v-index l.table.items l.carried
