use Rattle.mat_graphic.proofs.Common.{get_or, arith}
use Rattle.mat_graphic.proofs.ParentTables.{IsFinding-start, IsFinding-next, IsFinding-end}
use Rattle.mat_graphic.proofs.union_find.find.Goals as goal

pub loop-parent-init : goal.loop-parent-init
loop-parent-init c = IsFinding-start _ _ c.requires.descending

pub bounds-parent-parent : goal.bounds-parent-parent
bounds-parent-parent c =
    let first = c.loop-parent.invariant.descending.at c.loop-parent.v (omega arith) in
    omega arith

pub loop-parent-smaller : goal.loop-parent-smaller
loop-parent-smaller c =
    let f = c.loop-parent.invariant in
    let first = f.descending.at c.loop-parent.v (omega arith) in
    let second = f.descending.at (get_or c.loop-parent.parent c.loop-parent.v 0) (omega arith) in
    omega arith

pub loop-parent-preserved : goal.loop-parent-preserved
loop-parent-preserved c = IsFinding-next _ _ _ _ c.requires.inside c.loop-parent-test.true c.loop-parent.invariant

pub returns-clause-table : goal.returns-clause-table
returns-clause-table c = λ least t. (IsFinding-end _ _ _ _ c.requires.inside c.loop-parent-test.false c.loop-parent.invariant least t).0

pub returns-clause-found : goal.returns-clause-found
returns-clause-found c = λ least t. (IsFinding-end _ _ _ _ c.requires.inside c.loop-parent-test.false c.loop-parent.invariant least t).1
