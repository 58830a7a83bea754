use Rattle.mat_union.proofs.Common.{arith}
use Rattle.mat_union.proofs.FollowedRows.{united_end, united_next, united_none}
use Rattle.mat_union.proofs.exchange_arcs.unite_rows.Goals as goal

pub loop-y-init : goal.loop-y-init
loop-y-init c = united_none c.args.more.now c.args.rows.now.items

pub loop-y-preserved : goal.loop-y-preserved
loop-y-preserved c = united_next c.args.more.now c.args.rows.now.items c.loop-y.rows.items c.unite_row.new.rows.items c.loop-y.y c.row.result.now c.row.ensures
    c.loop-y.invariant c.in_ok-unite_row.ensures

pub returns : goal.returns
returns c = united_end c.args.more.now c.args.rows.now.items c.loop-y.rows.items c.loop-y.y
    (omega (arith, c.loop-y-test.false, c.loop-y.auto.y-end, c.requires.long)) c.loop-y.invariant
