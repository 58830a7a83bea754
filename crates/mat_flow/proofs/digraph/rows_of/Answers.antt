use Rattle.mat_flow.proofs.Common.{◌+◌, subst, sym, take, AreRows}
use Rattle.mat_flow.proofs.Rows.{AreRows-more}
use Rattle.mat_flow.proofs.digraph.rows_of.Goals as goal

pub loop-i-preserved : goal.loop-i-preserved
loop-i-preserved c =
    let arcs = c.args.arcs.now in
    let i = c.loop-i.i in
    subst (AreRows c.args.vertices (take (i + 1) arcs)) (sym c.in_ok-insert.ensures.ok)
    (AreRows-more c.args.vertices arcs i c.loop-i.rows c.loop-i-test.true (c.requires.first i c.loop-i-test.true) c.loop-i.invariant)
