use Rattle.mat_solve.proofs.Common.{IsAssignmentLadder, table_has_cells}
use Rattle.mat_solve.proofs.FrontSolutions.{assign_few, assign_solution}
use Rattle.mat_solve.proofs.ladders.assign.Goals as goal

pub assign-requires-clause-cells : goal.assign-requires-clause-cells
assign-requires-clause-cells c =
    let here = c.in-Table in
    table_has_cells here.rows here.columns here.cells here.weights (rw here.is at c.requires.valid)

pub priced_rungs-requires-clause-rungs : goal.priced_rungs-requires-clause-rungs
priced_rungs-requires-clause-rungs c =
    let here = c.in-Table in
    let ladder = c.in_ok-ladder.ladder in
    let found : IsAssignmentLadder here.rows here.columns here.cells here.weights ladder.rungs.items ladder.cut =
    rw c.as_slice.ensures at c.in_ok-ladder.ensures in
    rw c.as_slice-2.ensures
    (assign_few here.rows here.columns here.cells here.weights (rw here.is at c.requires.valid) ladder.rungs.items ladder.cut found)

pub returns-clause-solution : goal.returns-clause-solution
returns-clause-solution c =
    let here = c.in-Table in
    let ladder = c.in_ok-ladder.ladder in
    let found : IsAssignmentLadder here.rows here.columns here.cells here.weights ladder.rungs.items ladder.cut =
    rw c.as_slice.ensures at c.in_ok-ladder.ensures in
    rw (here.is, c.in_ok-rungs.ensures, c.as_slice-2.ensures, c.len.ensures)
    (assign_solution here.rows here.columns here.cells here.weights (rw here.is at c.requires.valid) ladder.rungs.items ladder.cut found)
