use Rattle.mat_union.proofs.Common.{IfOk-weaker}
use Rattle.mat_union.proofs.UnionColumns.{columns_by_arcs}
use Rattle.mat_union.proofs.exchange_arcs.ExchangeArcs.columns.Goals as goal

pub returns : goal.returns
returns c =
    let added = rw c.as_slice.ensures.items at c.in_ok-added.ensures in
    IfOk-weaker c.columns_of.result _ _
    (λ columns told n tests parts laws are same reached.
    let made = rw (c.as_slice-3.ensures.items, c.as_slice-2.ensures.value, c.in_ok-members.ensures.members) at told in
    columns_by_arcs laws are c.args.set.now same c.args.self.now reached c.in_ok-added.added added columns made) c.columns_of.ensures
