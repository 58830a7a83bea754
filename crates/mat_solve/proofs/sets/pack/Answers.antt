use Rattle.mat_solve.proofs.Common.{[], ◌∷◌, length, arith, IsRightPackingAnswer, is_independent, tree_of, list, IsSoundInstance}
use Rattle.mat_packing.specs.declared.packing.Packing.TheVariants.{Any, Most}
use Rattle.mat_solve.proofs.PackSolutions.{any_solution, pack_solution}
use Rattle.mat_solve.proofs.sets.pack.Goals as goal

pub returns-in-Any-clause-solution : goal.returns-in-Any-clause-solution
returns-in-Any-clause-solution c =
    let w = c.only_matroid.result.0.now in
    let tree = tree_of c.only_matroid.result.1.now in
    let sound : IsSoundInstance (list w (tree ∷ [])) = rw c.only_matroid.ensures at c.requires.sound in
    let found : IsRightPackingAnswer (length w) (is_independent tree) Any =
    rw ((sound 0 tree (omega arith)).1, c.in-Any.is) at c.in_ok-found.ensures in
    rw (c.only_matroid.ensures, c.len-count.ensures) (any_solution w tree (rw c.only_matroid.ensures at c.requires.valid) sound found)

pub returns-in-Most-clause-solution : goal.returns-in-Most-clause-solution
returns-in-Most-clause-solution c =
    let w = c.only_matroid.result.0.now in
    let tree = tree_of c.only_matroid.result.1.now in
    let sound : IsSoundInstance (list w (tree ∷ [])) = rw c.only_matroid.ensures at c.requires.sound in
    let found : IsRightPackingAnswer (length w) (is_independent tree) (Most c.in-Most.bases c.in-Most.cut) =
    rw ((sound 0 tree (omega arith)).1, c.in-Most.is) at c.in_ok-found.ensures in
    rw (c.only_matroid.ensures, c.len-count.ensures)
    (pack_solution w tree (rw c.only_matroid.ensures at c.requires.valid) sound c.in-Most.bases c.in-Most.cut found.0 found.1)
