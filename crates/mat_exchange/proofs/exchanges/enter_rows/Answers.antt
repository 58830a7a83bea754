-- The missing rows are entered element by element, so the table is filled up to the element that comes next.
use Rattle.mat_exchange.proofs.Common.{◌≡◌, ◌<◌, ◌∙◌, false, [], length, sym, subst, arith, get_or_default, AllBelow, Exchange, IsFilledTable, entered_to}
use Rattle.mat_exchange.proofs.TableSteps.{IsFilledTable-pass}
use Rattle.mat_exchange.proofs.exchanges.enter_rows.Goals as goal
use Rattle.mat_exchange.proofs.exchanges.enter_rows.Goals.{then-contains+in_ok-enter_row, else-contains}

pub loop-x-init : goal.loop-x-init
loop-x-init c = λ rows long agree filled. filled

pub enter_row-requires-clause-place : goal.enter_row-requires-clause-place
enter_row-requires-clause-place c =
    let start = c.requires.filled in
    let now = c.loop-x.invariant start.0 start.1 start.2 start.3 in
    omega (arith, c.loop-x-test.true, c.requires.few, now.count, start.1)

pub enter_row-requires-clause-few : goal.enter_row-requires-clause-few
enter_row-requires-clause-few c =
    let start = c.requires.filled in
    let now = c.loop-x.invariant start.0 start.1 start.2 start.3 in
    omega (arith, c.requires.few, now.count, start.1)

pub enter_row-requires-clause-count : goal.enter_row-requires-clause-count
enter_row-requires-clause-count c =
    let start = c.requires.filled in
    let now = c.loop-x.invariant start.0 start.1 start.2 start.3 in
    now.columns_count ∙ sym now.count

pub enter_row-requires-clause-below : goal.enter_row-requires-clause-below
enter_row-requires-clause-below c =
    let start = c.requires.filled in
    let now = c.loop-x.invariant start.0 start.1 start.2 start.3 in
    let exchanges = c.args.exchanges.now in
    let none : Exchange = record { addable = false; with = [] } in
    let l : c.loop-x.x < length exchanges = omega (arith, c.loop-x-test.true, c.requires.few) in
    subst (λ k. AllBelow k c.index-exchanges-x.result.with) (sym (now.count ∙ start.1))
    (subst (λ (r : Exchange). AllBelow (length exchanges) r.with)
    (sym (c.index-exchanges-x.is ∙ get_or_default exchanges c.loop-x.x c.index-exchanges-x.result none l))
    (c.requires.below c.loop-x.x l (sym c.contains.ensures ∙ c.if-contains.true)))

pub loop-x-preserved : goal.loop-x-preserved
loop-x-preserved c = elim c.if-contains.branch [
  | then-contains+in_ok-enter_row w ↦ λ rows long agree filled.
      let exchanges = c.args.exchanges.now in
      let none : Exchange = record { addable = false; with = [] } in
      let l : c.loop-x.x < length exchanges = omega (arith, c.loop-x-test.true, c.requires.few) in
      rw w.table-is (w.in_ok-enter_row.ensures rows c.args.missing.now
      (sym (agree c.loop-x.x (subst (λ k. c.loop-x.x < k) (sym long) l) (sym c.contains.ensures ∙ w.if-contains.true))
      ∙ sym (w.index-exchanges-x.is ∙ get_or_default exchanges c.loop-x.x w.index-exchanges-x.result none l))
      (c.loop-x.invariant rows long agree filled))
  | else-contains w ↦ λ rows long agree filled.
      rw w.table-is (IsFilledTable-pass rows c.args.missing.now c.loop-x.x c.loop-x.table.addable c.loop-x.table.rows c.loop-x.table.columns
      (c.loop-x.invariant rows long agree filled) (sym c.contains.ensures ∙ w.if-contains.false))
]

pub returns : goal.returns
returns c = λ rows long agree filled.
    let all : c.loop-x.x ≡ length rows = omega (arith, c.loop-x-test.false, c.loop-x.auto.x-end, c.requires.few, long) in
    subst (λ k. IsFilledTable rows (entered_to c.args.missing.now k) c.loop-x.table.addable c.loop-x.table.rows c.loop-x.table.columns) all
    (c.loop-x.invariant rows long agree filled)
