use Rattle.mat_exchange.proofs.Common.{◌≤◌, ◌∙◌, sym, subst, arith, most_elements, rows_of, IsFilledTable, entered_to, on_ok_weaker}
use Rattle.mat_exchange.proofs.RowExchanges.{length-rows_of}
use Rattle.mat_exchange.proofs.ComputedRows.{computed-below, rows_computed}
use Rattle.mat_exchange.proofs.exchanges.enter_by_workers.Goals as goal

pub ticket_rows-requires-clause-below : goal.ticket_rows-requires-clause-below
ticket_rows-requires-clause-below g c κs within =
    let count = length-rows_of (g.M.Matroid.ground_size c.args.m.now) (g.M.Matroid.indep c.args.m.now) c.args.set.now in
    omega (arith, count, c.size.ensures)

pub enter_rows-requires : goal.enter_rows-requires
enter_rows-requires g c =
    let n = g.M.Matroid.ground_size c.args.m.now in
    let p = g.M.Matroid.indep c.args.m.now in
    let I = c.args.set.now in
    let computed = rows_computed n p I c.args.missing.now c.in_ok-drawn.drawn.rows.items c.deref.result.now c.deref.ensures.value
    (c.in_ok-drawn.ensures.count ∙ c.size.ensures) c.in_ok-drawn.ensures.rows in
    record {
      few = subst (λ k. k ≤ most_elements) (sym computed.count) c.requires.few;
      below = computed-below n p I c.lawful.ensures c.requires.independent c.args.missing.now c.deref.result.now computed;
      filled = (rows_of n p I, length-rows_of n p I ∙ sym computed.count, computed.agree, c.requires.filled);
    }

pub returns : goal.returns
returns g c =
    let n = g.M.Matroid.ground_size c.args.m.now in
    let p = g.M.Matroid.indep c.args.m.now in
    let I = c.args.set.now in
    let computed = rows_computed n p I c.args.missing.now c.in_ok-drawn.drawn.rows.items c.deref.result.now c.deref.ensures.value
    (c.in_ok-drawn.ensures.count ∙ c.size.ensures) c.in_ok-drawn.ensures.rows in
    on_ok_weaker c.enter_rows.result (λ told.
    subst (λ k. IsFilledTable (rows_of n p I) (entered_to c.args.missing.now k)
    c.enter_rows.new.table.addable c.enter_rows.new.table.rows c.enter_rows.new.table.columns) (length-rows_of n p I)
    (told (rows_of n p I) (length-rows_of n p I ∙ sym computed.count) computed.agree c.requires.filled)) c.enter_rows.ensures
