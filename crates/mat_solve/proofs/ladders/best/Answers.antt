use Rattle.mat_solve.proofs.Common.{[], ◌∷◌, length, arith, weight_at, is_independent, tree_of, AreHeaviestEach, IsValid, list, IsSoundInstance}
use Rattle.mat_solve.proofs.PlainLadder.{best_few, best_solution}
use Rattle.mat_solve.proofs.ladders.best.Goals as goal

pub plain_rungs-requires-clause-sets : goal.plain_rungs-requires-clause-sets
plain_rungs-requires-clause-sets c =
    let only = c.only_matroid.result in
    let valid : IsValid (list only.0.now (tree_of only.1.now ∷ [])) = rw c.only_matroid.ensures at c.requires.valid in
    let sound : IsSoundInstance (list only.0.now (tree_of only.1.now ∷ [])) = rw c.only_matroid.ensures at c.requires.sound in
    let found : AreHeaviestEach (length only.0.now) (is_independent (tree_of only.1.now)) (weight_at only.0.now) c.in_ok-sets.sets =
    rw (c.as_slice.ensures, (sound 0 (tree_of only.1.now) (omega arith)).1) at c.in_ok-sets.ensures in
    rw (c.into_vec.ensures, c.as_slice-2.ensures) (best_few only.0.now (tree_of only.1.now) valid sound c.in_ok-sets.sets found)

pub returns-clause-solution : goal.returns-clause-solution
returns-clause-solution c =
    let only = c.only_matroid.result in
    let valid : IsValid (list only.0.now (tree_of only.1.now ∷ [])) = rw c.only_matroid.ensures at c.requires.valid in
    let sound : IsSoundInstance (list only.0.now (tree_of only.1.now ∷ [])) = rw c.only_matroid.ensures at c.requires.sound in
    let found : AreHeaviestEach (length only.0.now) (is_independent (tree_of only.1.now)) (weight_at only.0.now) c.in_ok-sets.sets =
    rw (c.as_slice.ensures, (sound 0 (tree_of only.1.now) (omega arith)).1) at c.in_ok-sets.ensures in
    rw (c.only_matroid.ensures, c.in_ok-rungs.ensures, c.into_vec.ensures, c.as_slice-2.ensures, c.len.ensures)
    (best_solution only.0.now (tree_of only.1.now) valid sound c.in_ok-sets.sets found)
