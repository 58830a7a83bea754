use Rattle.mat_flow.proofs.LinkTables.{AreOwn}
use Rattle.mat_flow.proofs.link_table.no_links.Given as goal

abbrev pub invariant-loop-v : goal.invariant-loop-v
invariant-loop-v l = AreOwn l.v l.before.items
