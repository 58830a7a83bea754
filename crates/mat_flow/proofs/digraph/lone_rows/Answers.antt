use Rattle.mat_flow.proofs.Common.{◌≡◌, ◌+◌, arith, subst, sym}
use Rattle.mat_flow.proofs.Rows.{AreLone, AreLone-more, AreLone-none, AreRows-lone}
use Rattle.mat_flow.proofs.digraph.lone_rows.Goals as goal

pub loop-u-init : goal.loop-u-init
loop-u-init c = AreLone-none c.args.vertices c.in_ok-rows.rows c.in_ok-rows.ensures

pub loop-u-preserved : goal.loop-u-preserved
loop-u-preserved c =
    subst (AreLone c.args.vertices (c.loop-u.u + 1)) (sym c.in_ok-insert.ensures.ok)
    (AreLone-more c.args.vertices c.loop-u.u c.loop-u.rows c.loop-u-test.true c.loop-u.invariant)

pub returns : goal.returns
returns c =
    let end : c.loop-u.u ≡ c.args.vertices = omega (arith, c.loop-u.auto.u-end, c.loop-u-test.false) in
    AreRows-lone c.args.vertices c.loop-u.rows (subst (λ i. AreLone c.args.vertices i c.loop-u.rows) end c.loop-u.invariant)
