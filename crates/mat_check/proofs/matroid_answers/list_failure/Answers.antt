use Rattle.mat_check.proofs.Common.{◌≡◌, length, sym, subst, IfOk, map, and_parts, eqb-true, is_independent, tree_of, first_failure, union_clauses}
use Rattle.mat_problem.proofs.ListedMatroids.{all_sound, tests_of_trees}
use Rattle.mat_check.proofs.matroid_answers.list_failure.Goals as goal

pub union_failure-requires-clause-sound : goal.union_failure-requires-clause-sound
union_failure-requires-clause-sound g c κs = all_sound c.args.weights.now c.args.matroids.now c.requires.sound

pub returns-in-UnionOf : goal.returns-in-UnionOf
returns-in-UnionOf g c =
    let w = c.args.weights.now in
    let trees = map tree_of c.args.matroids.now in
    let header = rw c.in-UnionOf.is at c.requires.header in
    let count : c.in-UnionOf.count ≡ length w = eqb-true c.in-UnionOf.count (length w) (and_parts _ _ header).0 in
    rw c.in-UnionOf.is (subst
    (λ n. IfOk c.union_failure.result (λ found. found ≡ first_failure (union_clauses n (map is_independent trees) w c.in-UnionOf.weight
    c.in-UnionOf.parts c.in-UnionOf.levels.items)))
    (sym count) (rw (sym (tests_of_trees c.args.matroids.now)) (rw (c.as_slice.ensures.items, c.deref.ensures.value) at c.union_failure.ensures)))
