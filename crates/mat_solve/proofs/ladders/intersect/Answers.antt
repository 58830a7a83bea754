use Rattle.mat_solve.proofs.Common.{length, is_independent, tree_of, IsLadder}
use Rattle.mat_solve.proofs.PricedLadder.{pair_few, pair_solution}
use Rattle.mat_solve.proofs.ladders.intersect.Goals as goal

pub priced_rungs-requires-clause-rungs : goal.priced_rungs-requires-clause-rungs
priced_rungs-requires-clause-rungs g c =
    let here = c.in-Pair in
    let ladder = c.in_ok-ladder.ladder in
    let sound = rw here.is at c.requires.sound in
    let found : IsLadder (length here.weights) (is_independent (tree_of here.first)) (is_independent (tree_of here.second)) here.weights
    ladder.rungs.items ladder.cut = rw (c.as_slice.ensures, sound.1) at c.in_ok-ladder.ensures in
    rw c.as_slice-2.ensures
    (pair_few here.weights (tree_of here.first) (tree_of here.second) (rw here.is at c.requires.valid) sound ladder.rungs.items ladder.cut found)

pub returns-clause-solution : goal.returns-clause-solution
returns-clause-solution g c =
    let here = c.in-Pair in
    let ladder = c.in_ok-ladder.ladder in
    let sound = rw here.is at c.requires.sound in
    let found : IsLadder (length here.weights) (is_independent (tree_of here.first)) (is_independent (tree_of here.second)) here.weights
    ladder.rungs.items ladder.cut = rw (c.as_slice.ensures, sound.1) at c.in_ok-ladder.ensures in
    rw (here.is, c.in_ok-rungs.ensures, c.as_slice-2.ensures, c.len.ensures)
    (pair_solution here.weights (tree_of here.first) (tree_of here.second) (rw here.is at c.requires.valid) sound ladder.rungs.items ladder.cut found)
