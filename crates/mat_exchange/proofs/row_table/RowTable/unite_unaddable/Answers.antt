use Rattle.mat_exchange.proofs.Common.{length, sym, ◌∙◌, AllBelow-at, exchanges_in}
use Rattle.mat_exchange.proofs.PutElements.{ArePut-none, ArePut-more, ArePut-passed}
use Rattle.mat_exchange.proofs.row_table.RowTable.unite_unaddable.Goals as goal
use Rattle.mat_exchange.proofs.row_table.RowTable.unite_unaddable.Goals.{then-not-addable+in_ok-insert, else-not-addable}

pub loop-x-init : goal.loop-x-init
loop-x-init c = ArePut-none (exchanges_in c.args.self.now) c.args.into.now

pub addable-requires : goal.addable-requires
addable-requires c = AllBelow-at (length c.args.self.now) c.args.elements.now c.loop-x.x-index c.requires c.loop-x-test.true

pub loop-x-preserved : goal.loop-x-preserved
loop-x-preserved c = elim c.if-not-addable.branch [
  | then-not-addable+in_ok-insert w ↦ ArePut-more (exchanges_in c.args.self.now) c.args.elements.now c.loop-x.x-index c.args.into.now c.loop-x.into
      c.loop-x-test.true c.loop-x.invariant _ (w.into-is ∙ w.in_ok-insert.ensures.ok)
  | else-not-addable w ↦ rw w.into-is (ArePut-passed (exchanges_in c.args.self.now) c.args.elements.now c.loop-x.x-index c.args.into.now c.loop-x.into
      c.loop-x-test.true c.loop-x.invariant (sym c.addable.ensures ∙ w.if-not-addable.false))
]
