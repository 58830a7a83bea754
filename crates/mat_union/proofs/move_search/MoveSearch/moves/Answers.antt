use Rattle.mat_union.proofs.Common.{◌≡◌, ◌∙◌, length, get_or, arith, get_or_default, IsToldTable}
use Rattle.mat_union.proofs.FoundMoves.{reach_shows, walk_shows}
use Rattle.mat_union.proofs.move_search.MoveSearch.moves.Goals as goal

pub told_table-requires-clause-told : goal.told_table-requires-clause-told
told_table-requires-clause-told c = rw (c.as_slice-queue.ensures.value, c.as_slice.ensures.value) c.requires.ready.told

pub told_table-requires-clause-below : goal.told_table-requires-clause-below
told_table-requires-clause-below c = rw c.as_slice-queue.ensures.value c.requires.ready.below

pub index-requires : goal.index-requires
index-requires c = omega (arith, c.requires.ready.asked c.if-not-self.false, c.args.self.now.queue.ok.0)

pub returns-in-Walk : goal.returns-in-Walk
returns-in-Walk c = λ n tests among start laws are reaching fresh.
    let s = c.args.self.now in
    let asked : c.index.result.now ≡ get_or s.queue.items s.head 0 = c.index.ensures ∙ get_or_default s.queue.items s.head c.index.result.now 0 (c.requires.ready.asked c.if-not-self.false) in
    let told : IsToldTable s.elements (length s.told.items) s.queue.items s.told.items c.in_ok-table.table = rw (c.as_slice-queue.ensures.value, c.as_slice.ensures.value) at c.in_ok-table.ensures in
    walk_shows laws are reaching c.if-not-self.false c.in_ok-table.table told c.index.result.now asked c.in_ok-walk.field-0 c.in-Walk.walk c.in-Walk.is c.in_ok-walk.ensures
    c.deref.result.now c.deref.ensures.value c.in_ok-moves_to-in-Walk.field-0.items c.in_ok-moves_to-in-Walk.ensures fresh

pub returns : goal.returns
returns c = λ n tests among start laws are reaching fresh.
    let s = c.args.self.now in
    let asked : c.index.result.now ≡ get_or s.queue.items s.head 0 = c.index.ensures ∙ get_or_default s.queue.items s.head c.index.result.now 0 (c.requires.ready.asked c.if-not-self.false) in
    let told : IsToldTable s.elements (length s.told.items) s.queue.items s.told.items c.in_ok-table.table = rw (c.as_slice-queue.ensures.value, c.as_slice.ensures.value) at c.in_ok-table.ensures in
    absurd (reach_shows laws are reaching c.if-not-self.false c.in_ok-table.table told c.index.result.now asked c.in_ok-walk.field-0 c.in-Reached.field-0 c.in-Reached.is c.in_ok-walk.ensures)
