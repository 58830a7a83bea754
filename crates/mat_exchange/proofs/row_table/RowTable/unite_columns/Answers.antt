use Rattle.mat_exchange.proofs.Common.{length, get_or, ap, ◌∙◌, is_member, AllBelow-at, exchanges_in}
use Rattle.mat_exchange.proofs.RowTables.{column_tells, has_column}
use Rattle.mat_exchange.proofs.PutElements.{AreUnited-none, AreUnited-more}
use Rattle.mat_exchange.proofs.row_table.RowTable.unite_columns.Goals as goal

pub loop-y-init : goal.loop-y-init
loop-y-init c = AreUnited-none (exchanges_in c.args.self.now) c.args.into.now

pub row-requires : goal.row-requires
row-requires c = has_column c.self.inside.base c.self.invariant _ c.self.view_is _
    (AllBelow-at (length c.args.self.now) c.args.members.now c.loop-y.y-index c.requires c.loop-y-test.true)

pub loop-y-preserved : goal.loop-y-preserved
loop-y-preserved c =
    let i = c.loop-y.y-index in
    let below = AllBelow-at (length c.args.self.now) c.args.members.now i c.requires c.loop-y-test.true in
    AreUnited-more (exchanges_in c.args.self.now) c.args.members.now i c.args.into.now c.loop-y.into _ c.row.result.now c.loop-y-test.true c.loop-y.invariant
    c.in_ok-unite_row.ensures.ok
    (λ x. ap (is_member x) c.row.ensures ∙ column_tells c.self.inside.base c.self.invariant _ c.self.view_is (get_or c.args.members.now i 0) x below)
