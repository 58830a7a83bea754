use Rattle.mat_witness.proofs.Common.{◌+◌, subst, sym, take, AreArcRows}
use Rattle.mat_witness.proofs.ArcRows.{AreArcRows-more, AreArcRows-none}
use Rattle.mat_witness.proofs.parts.gammoids.arcs.arc_rows.Goals as goal

pub loop-i-init : goal.loop-i-init
loop-i-init c = AreArcRows-none c.args.vertices c.in_ok-rows.rows c.in_ok-rows.ensures

pub loop-i-preserved : goal.loop-i-preserved
loop-i-preserved c =
    let arcs = c.args.arcs.now in
    let i = c.loop-i.i in
    subst (AreArcRows c.args.vertices (take (i + 1) arcs)) (sym c.in_ok-insert.ensures.ok)
    (AreArcRows-more c.args.vertices arcs i c.loop-i.rows c.loop-i-test.true (c.requires.first i c.loop-i-test.true) c.loop-i.invariant)
