use Rattle.mat_solve.proofs.Common.{IsRainbowLadder, coloured_is_graph, coloured_is_coloured}
use Rattle.mat_solve.proofs.FrontSolutions.{rainbow_few, rainbow_solution}
use Rattle.mat_solve.proofs.ladders.rainbow.Goals as goal

pub rainbow-requires-clause-graph : goal.rainbow-requires-clause-graph
rainbow-requires-clause-graph c =
    let here = c.in-Coloured in
    coloured_is_graph here.vertices here.colours here.edges here.colour_of.items here.weights (rw here.is at c.requires.valid)

pub rainbow-requires-clause-colouring : goal.rainbow-requires-clause-colouring
rainbow-requires-clause-colouring c =
    let here = c.in-Coloured in
    rw c.deref.ensures.value
    (coloured_is_coloured here.vertices here.colours here.edges here.colour_of.items here.weights (rw here.is at c.requires.valid))

pub priced_rungs-requires-clause-rungs : goal.priced_rungs-requires-clause-rungs
priced_rungs-requires-clause-rungs c =
    let here = c.in-Coloured in
    let ladder = c.in_ok-found.found.ladder in
    let found : IsRainbowLadder here.vertices here.edges here.colours here.colour_of.items here.weights ladder.rungs.items ladder.cut
    c.in_ok-found.found.missing = rw (c.deref.ensures.value, c.as_slice.ensures) at c.in_ok-found.ensures in
    rw c.as_slice-2.ensures (rainbow_few here.vertices here.colours here.edges here.colour_of.items here.weights (rw here.is at c.requires.valid)
    ladder.rungs.items ladder.cut c.in_ok-found.found.missing found)

pub returns-clause-solution : goal.returns-clause-solution
returns-clause-solution c =
    let here = c.in-Coloured in
    let ladder = c.in_ok-found.found.ladder in
    let found : IsRainbowLadder here.vertices here.edges here.colours here.colour_of.items here.weights ladder.rungs.items ladder.cut
    c.in_ok-found.found.missing = rw (c.deref.ensures.value, c.as_slice.ensures) at c.in_ok-found.ensures in
    rw (here.is, c.in_ok-rungs.ensures, c.as_slice-2.ensures, c.len.ensures)
    (rainbow_solution here.vertices here.colours here.edges here.colour_of.items here.weights (rw here.is at c.requires.valid)
    ladder.rungs.items ladder.cut c.in_ok-found.found.missing found)
