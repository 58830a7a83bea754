use Rattle.mat_exchange.proofs.Common.{◌≡◌, ◌∙◌, sym, subst, arith, rows_of, IsFilledTable, entered_to}
use Rattle.mat_exchange.proofs.RowExchanges.{length-rows_of}
use Rattle.mat_exchange.proofs.TableSteps.{IsFilledTable-pass}
use Rattle.mat_exchange.proofs.exchanges.enter_in_turn.Goals as goal
use Rattle.mat_exchange.proofs.exchanges.enter_in_turn.Goals.{then-contains+in_ok-enter_missing, else-contains}

pub loop-x-init : goal.loop-x-init
loop-x-init g c = c.requires.filled

pub enter_missing-requires-clause-below : goal.enter_missing-requires-clause-below
enter_missing-requires-clause-below g c = omega (arith, c.loop-x-test.true, c.size-x-end.ensures)

pub enter_missing-requires-clause-rows : goal.enter_missing-requires-clause-rows
enter_missing-requires-clause-rows g c κs within =
    c.loop-x.invariant.count ∙ length-rows_of (g.M.Matroid.ground_size c.args.m.now) (g.M.Matroid.indep c.args.m.now) c.args.set.now

pub enter_missing-requires-clause-columns : goal.enter_missing-requires-clause-columns
enter_missing-requires-clause-columns g c κs within =
    c.loop-x.invariant.columns_count ∙ length-rows_of (g.M.Matroid.ground_size c.args.m.now) (g.M.Matroid.indep c.args.m.now) c.args.set.now

pub loop-x-preserved : goal.loop-x-preserved
loop-x-preserved g c = elim c.if-contains.branch [
  | then-contains+in_ok-enter_missing w ↦ rw w.table-is (w.in_ok-enter_missing.ensures c.args.missing.now c.loop-x.invariant)
  | else-contains w ↦ rw w.table-is (IsFilledTable-pass (rows_of (g.M.Matroid.ground_size c.args.m.now) (g.M.Matroid.indep c.args.m.now) c.args.set.now)
      c.args.missing.now c.loop-x.x c.loop-x.table.addable c.loop-x.table.rows c.loop-x.table.columns c.loop-x.invariant
      (sym c.contains.ensures ∙ w.if-contains.false))
]

pub returns : goal.returns
returns g c =
    let n = g.M.Matroid.ground_size c.args.m.now in
    let all : c.loop-x.x ≡ n = omega (arith, c.loop-x-test.false, c.loop-x.auto.x-end, c.size-x-end.ensures) in
    subst (λ k. IsFilledTable (rows_of n (g.M.Matroid.indep c.args.m.now) c.args.set.now) (entered_to c.args.missing.now k)
    c.loop-x.table.addable c.loop-x.table.rows c.loop-x.table.columns) all c.loop-x.invariant
