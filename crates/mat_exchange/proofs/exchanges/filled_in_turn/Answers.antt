use Rattle.mat_exchange.proofs.Common.{sym, subst, rows_of, AreWhole}
use Rattle.mat_exchange.proofs.RowExchanges.{all_filled, AreWhole-rows_of}
use Rattle.mat_exchange.proofs.exchanges.filled_in_turn.Goals as goal

pub finish-table-requires : goal.finish-table-requires
finish-table-requires g c =
    let n = g.M.Matroid.ground_size c.args.m.now in
    let p = g.M.Matroid.indep c.args.m.now in
    let I = c.args.set.now in
    record {
      filled = (
        rows_of n p I,
        c.args.unfilled.missing,
        all_filled n p I c.args.unfilled.missing
            c.enter_in_turn.new.table.addable c.enter_in_turn.new.table.rows c.enter_in_turn.new.table.columns c.in_ok-enter_in_turn.ensures,
      );
    }

pub returns-clause-table : goal.returns-clause-table
returns-clause-table g c =
    let n = g.M.Matroid.ground_size c.args.m.now in
    let p = g.M.Matroid.indep c.args.m.now in
    let I = c.args.set.now in
    c.finish-table.ensures (rows_of n p I) c.args.unfilled.missing
    (all_filled n p I c.args.unfilled.missing
    c.enter_in_turn.new.table.addable c.enter_in_turn.new.table.rows c.enter_in_turn.new.table.columns c.in_ok-enter_in_turn.ensures)
    (subst (λ b. AreWhole b (rows_of n p I)) (sym c.in_ok-base.ensures.members) (AreWhole-rows_of c.lawful.ensures I c.requires.independent))
