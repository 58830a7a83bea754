use Rattle.mat_solve.proofs.Common.{[], ◌∷◌, length, arith, IsRightCoveringAnswer, is_independent, tree_of, list, IsSoundInstance}
use Rattle.mat_packing.specs.declared.covering.Covering.TheVariants.{Never, Least}
use Rattle.mat_solve.proofs.PackSolutions.{never_solution, cover_solution}
use Rattle.mat_solve.proofs.sets.cover.Goals as goal

pub returns-in-Never-clause-solution : goal.returns-in-Never-clause-solution
returns-in-Never-clause-solution c =
    let w = c.only_matroid.result.0.now in
    let tree = tree_of c.only_matroid.result.1.now in
    let sound : IsSoundInstance (list w (tree ∷ [])) = rw c.only_matroid.ensures at c.requires.sound in
    let found : IsRightCoveringAnswer (length w) (is_independent tree) (Never c.in-Never.loop_at) =
    rw ((sound 0 tree (omega arith)).1, c.in-Never.is) at c.in_ok-found.ensures in
    rw (c.only_matroid.ensures, c.len-count.ensures)
    (never_solution w tree (rw c.only_matroid.ensures at c.requires.valid) sound c.in-Never.loop_at found)

pub returns-in-Least-clause-solution : goal.returns-in-Least-clause-solution
returns-in-Least-clause-solution c =
    let w = c.only_matroid.result.0.now in
    let tree = tree_of c.only_matroid.result.1.now in
    let sound : IsSoundInstance (list w (tree ∷ [])) = rw c.only_matroid.ensures at c.requires.sound in
    let found : IsRightCoveringAnswer (length w) (is_independent tree) (Least c.in-Least.sets c.in-Least.cut) =
    rw ((sound 0 tree (omega arith)).1, c.in-Least.is) at c.in_ok-found.ensures in
    rw (c.only_matroid.ensures, c.len-count.ensures)
    (cover_solution w tree (rw c.only_matroid.ensures at c.requires.valid) sound c.in-Least.sets found.0 c.in-Least.cut found.1)
