use Rattle.mat_graphic.proofs.Common.{◌<◌, ◌∙◌, max, length, sym, arith}
use Rattle.mat_graphic.proofs.ParentTables.{IsParentTable-joined, IsParentTable-within}
use Rattle.mat_graphic.proofs.union_find.unite.Goals as goal

pub returns-then-p-q-clause-table : goal.returns-then-p-q-clause-table
returns-then-p-q-clause-table c = λ least t.
    let first = c.find-p.ensures.table least t in
    let a = c.find-p.ensures.found least t in
    let b = c.find-q.ensures.found least first in
    IsParentTable-within least c.find-q.new.parent c.args.a c.args.b (sym a ∙ c.if-p-q.true ∙ b) (c.find-q.ensures.table least first)

pub returns-clause-table : goal.returns-clause-table
returns-clause-table c = λ least t.
    let first = c.find-p.ensures.table least t in
    let inside : max c.find-p.result c.find-q.result < length c.find-q.new.parent = omega
    (arith, c.find-p.ensures.low, c.find-q.ensures.low, c.requires.first, c.requires.second, c.find-p.auto.parent, c.find-q.auto.parent) in
    rw (c.max.ensures, c.min.ensures) (IsParentTable-joined least c.find-q.new.parent c.find-p.result c.find-q.result c.args.a c.args.b inside
    c.if-p-q.false
    (c.find-p.ensures.found least t) (c.find-q.ensures.found least first) (c.find-q.ensures.table least first))
