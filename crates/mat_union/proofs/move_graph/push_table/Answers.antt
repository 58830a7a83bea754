use Rattle.mat_union.proofs.Common.{subst, sym, IsPushTable}
use Rattle.mat_union.proofs.GraphSteps.{table_more, table_none}
use Rattle.mat_union.proofs.move_graph.push_table.Goals as goal

pub loop-u-init : goal.loop-u-init
loop-u-init c = subst (IsPushTable c.args.rows.now 0) (sym c.new-table.ensures) (table_none c.args.rows.now)

pub loop-u-preserved : goal.loop-u-preserved
loop-u-preserved c = subst (IsPushTable c.args.rows.now _) (sym c.in_ok-push.ensures.ok) (table_more c.args.rows.now c.loop-u.u c.loop-u.table c.in_ok-pushed.field-0 c.loop-u.invariant c.in_ok-pushed.ensures)
