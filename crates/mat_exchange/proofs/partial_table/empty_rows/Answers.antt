use Rattle.mat_exchange.proofs.Common.{set, sym, ap, ◌∙◌, arith}
use Rattle.mat_exchange.proofs.EmptiedRows.{none_emptied, one_emptied, one_kept, all_emptied}
use Rattle.mat_exchange.proofs.partial_table.empty_rows.Goals as goal
use Rattle.mat_exchange.proofs.partial_table.empty_rows.Goals.{then-contains, else-contains}

pub loop-x-init : goal.loop-x-init
loop-x-init c = none_emptied c.args.elements.now c.args.rows.now

pub replace-requires : goal.replace-requires
replace-requires c = omega (arith, c.loop-x-test.true, c.requires, c.len-x-end.ensures, c.loop-x.invariant.count)

pub loop-x-preserved : goal.loop-x-preserved
loop-x-preserved c = elim c.if-contains.branch [
  | then-contains w ↦ one_emptied c.args.elements.now c.loop-x.x c.args.rows.now c.loop-x.rows c.loop-x.invariant _
      (omega (arith, c.loop-x-test.true, c.requires, c.len-x-end.ensures, c.loop-x.invariant.count))
      (sym c.contains.ensures ∙ w.if-contains.true) (w.rows-is ∙ w.replace.ensures ∙ ap (λ r. set c.loop-x.rows c.loop-x.x r) w.new.ensures)
  | else-contains w ↦ rw w.rows-is (one_kept c.args.elements.now c.loop-x.x c.args.rows.now c.loop-x.rows c.loop-x.invariant
      (sym c.contains.ensures ∙ w.if-contains.false))
]

pub returns-clause-count : goal.returns-clause-count
returns-clause-count c = c.loop-x.invariant.count

pub returns-clause-rows : goal.returns-clause-rows
returns-clause-rows c = all_emptied c.args.elements.now c.loop-x.x c.args.rows.now c.loop-x.rows c.loop-x.invariant
    (omega (arith, c.loop-x-test.false, c.loop-x.auto.x-end, c.requires, c.len-x-end.ensures, c.loop-x.invariant.count))
