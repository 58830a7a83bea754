use Rattle.mat_exchange.proofs.Common.{sym, ap, ◌∙◌, is_member, is_member-all_below, rows_of}
use Rattle.mat_exchange.proofs.RowExchanges.{length-rows_of}
use Rattle.mat_exchange.proofs.unfinished_table.begun.Goals as goal

pub returns-clause-filled : goal.returns-clause-filled
returns-clause-filled g c =
    let n = g.M.Matroid.ground_size c.args.m.now in
    let p = g.M.Matroid.indep c.args.m.now in
    c.in_ok-table.ensures (rows_of n p c.args.set.now) c.in_ok-missing.missing (length-rows_of n p c.args.set.now ∙ sym c.size-n.ensures)
    (λ k. ap (is_member k) c.in_ok-missing.ensures ∙ is_member-all_below k _)
