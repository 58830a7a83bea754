-- Rows whose elements and members stay are those at the next set too; all others are missing again.
use Rattle.mat_exchange.proofs.Common.{length, ap, sym, subst, ◌∙◌, arith, AllBelow, minus, AllBelow-subset, minus-IsSubset, rows_of, below}
use Rattle.mat_exchange.proofs.MissingElements.{rows_reopened}
use Rattle.mat_exchange.proofs.RowExchanges.{length-rows_of}
use Rattle.mat_exchange.proofs.unfinished_table.reopened.Goals as goal

pub lost_rows-requires-clause-came : goal.lost_rows-requires-clause-came
lost_rows-requires-clause-came g c =
    let n = g.M.Matroid.ground_size c.args.m.now in
    let p = g.M.Matroid.indep c.args.m.now in
    subst (λ k. AllBelow k c.in_ok-came.came) (sym (ap length c.requires.table ∙ length-rows_of n p c.args.set.now))
    (subst (AllBelow n) (sym c.in_ok-came.ensures.members) (AllBelow-subset n (minus c.args.next.now c.args.set.now) c.args.next.now
    (minus-IsSubset c.args.next.now c.args.set.now) (below c.lawful.ensures c.args.next.now c.requires.next)))

pub lost_rows-requires-clause-left : goal.lost_rows-requires-clause-left
lost_rows-requires-clause-left g c =
    let n = g.M.Matroid.ground_size c.args.m.now in
    let p = g.M.Matroid.indep c.args.m.now in
    subst (λ k. AllBelow k c.in_ok-left.left) (sym (ap length c.requires.table ∙ length-rows_of n p c.args.set.now))
    (subst (AllBelow n) (sym c.in_ok-left.ensures.members) (AllBelow-subset n (minus c.args.set.now c.args.next.now) c.args.set.now
    (minus-IsSubset c.args.set.now c.args.next.now) (below c.lawful.ensures c.args.set.now c.requires.independent)))

pub reopened-table-requires : goal.reopened-table-requires
reopened-table-requires g c =
    let known = rows_reopened c.lawful.ensures c.args.set.now c.args.next.now c.in_ok-lost.lost c.in_ok-missing.missing c.in_ok-came.came c.in_ok-left.left c.args.at.table
    c.requires.independent c.requires.next c.requires.table c.in_ok-came.ensures.members c.in_ok-left.ensures.members c.in_ok-lost.ensures
    c.in_ok-missing.ensures in
    record {
      few = omega (arith, ap length c.requires.table, length-rows_of (g.M.Matroid.ground_size c.args.m.now) (g.M.Matroid.indep c.args.m.now) c.args.set.now, c.requires.few);
      lost = known.lost_missing;
      bare = known.others_bare;
      added = known.added_missing;
    }

pub returns-clause-filled : goal.returns-clause-filled
returns-clause-filled g c =
    let n = g.M.Matroid.ground_size c.args.m.now in
    let p = g.M.Matroid.indep c.args.m.now in
    c.reopened-table.ensures (rows_of n p c.args.next.now)
    (length-rows_of n p c.args.next.now ∙ sym (ap length c.requires.table ∙ length-rows_of n p c.args.set.now))
    (rows_reopened c.lawful.ensures c.args.set.now c.args.next.now c.in_ok-lost.lost c.in_ok-missing.missing c.in_ok-came.came c.in_ok-left.left c.args.at.table
    c.requires.independent c.requires.next c.requires.table c.in_ok-came.ensures.members c.in_ok-left.ensures.members c.in_ok-lost.ensures
    c.in_ok-missing.ensures).rows_stay
