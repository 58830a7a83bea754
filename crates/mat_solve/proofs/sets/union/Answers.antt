-- Unions are sound and have few elements; the heaviest sets of the union, with their weights and cut, are a right answer.
use Rattle.mat_solve.proofs.Common.{length, map, sym, IsRightUnion, is_independent, tree_of}
use Rattle.mat_problem.proofs.ListedMatroids.{all_sound, tests_of_trees}
use Rattle.mat_solve.proofs.UnionSolutions.{union_few, union_solution}
use Rattle.mat_solve.proofs.sets.union.Goals as goal

pub best_union-requires-clause-sound : goal.best_union-requires-clause-sound
best_union-requires-clause-sound c κs =
    let here = c.in-List in
    rw (c.as_slice.ensures.value, c.as_slice-2.ensures) (all_sound here.weights here.matroids.items (rw here.is at c.requires.sound))

pub weigh-weight-requires-clause-inside : goal.weigh-weight-requires-clause-inside
weigh-weight-requires-clause-inside c =
    let w = c.in-List.weights in
    let matroids = c.in-List.matroids.items in
    let found : IsRightUnion (length w) (map (λ m. is_independent (tree_of m)) matroids) w c.in_ok-found.found.parts c.in_ok-found.found.levels.items
    = rw (c.as_slice.ensures.value, c.as_slice-2.ensures) at c.in_ok-found.ensures in
    let trees = rw (tests_of_trees matroids) at found.are in
    rw (c.in_ok-all.ensures, c.as_slice-3.ensures.items, c.as_slice-4.ensures)
    (union_few w (map tree_of matroids) (rw c.in-List.is at c.requires.valid) (rw c.in-List.is at c.requires.sound) c.in_ok-found.found.parts trees).0

pub weigh-weight-requires-clause-few : goal.weigh-weight-requires-clause-few
weigh-weight-requires-clause-few c =
    let w = c.in-List.weights in
    let matroids = c.in-List.matroids.items in
    let found : IsRightUnion (length w) (map (λ m. is_independent (tree_of m)) matroids) w c.in_ok-found.found.parts c.in_ok-found.found.levels.items
    = rw (c.as_slice.ensures.value, c.as_slice-2.ensures) at c.in_ok-found.ensures in
    let trees = rw (tests_of_trees matroids) at found.are in
    rw (c.in_ok-all.ensures, c.as_slice-3.ensures.items)
    (union_few w (map tree_of matroids) (rw c.in-List.is at c.requires.valid) (rw c.in-List.is at c.requires.sound) c.in_ok-found.found.parts trees).1

pub returns-clause-solution : goal.returns-clause-solution
returns-clause-solution c =
    let w = c.in-List.weights in
    let matroids = c.in-List.matroids.items in
    let found : IsRightUnion (length w) (map (λ m. is_independent (tree_of m)) matroids) w c.in_ok-found.found.parts c.in_ok-found.found.levels.items
    = rw (c.as_slice.ensures.value, c.as_slice-2.ensures) at c.in_ok-found.ensures in
    let right = rw (tests_of_trees matroids, sym c.in_ok-levels.ensures) at found in
    rw (c.in-List.is, c.len.ensures, c.weigh-weight.ensures.sum, c.as_slice-4.ensures, c.in_ok-all.ensures, c.as_slice-3.ensures.items)
    (union_solution w (map tree_of matroids) (rw c.in-List.is at c.requires.valid) (rw c.in-List.is at c.requires.sound) c.in_ok-found.found.parts
    c.in_ok-levels.levels.items right)
