use Rattle.mat_check.proofs.Common.{◌≡◌, [], length, sym, subst, ◌∙◌, IfOk, eqb-true, All-head, IsSound, element_count, is_independent, tree_of, first_failure, cover_clauses, pack_clauses}
use Rattle.mat_check.proofs.matroid_answers.single_failure.Goals as goal

pub returns-in-Pack : goal.returns-in-Pack
returns-in-Pack g c =
    let t = tree_of c.args.m.now in
    let w = c.args.weights.now in
    let sound = All-head (λ tree. IsSound tree × (element_count tree ≡ length w)) t [] c.requires.sound in
    let count : c.in-Pack.count ≡ length w = eqb-true c.in-Pack.count (length w) (rw c.in-Pack.is at c.requires.header) in
    rw c.in-Pack.is (subst
    (λ n. IfOk c.pack_failure.result (λ found. found ≡ first_failure (pack_clauses n (is_independent t) c.in-Pack.bases c.in-Pack.cut)))
    (sound.1 ∙ sym count) (rw c.as_slice.ensures.items at c.pack_failure.ensures))

pub returns-in-Cover : goal.returns-in-Cover
returns-in-Cover g c =
    let t = tree_of c.args.m.now in
    let w = c.args.weights.now in
    let sound = All-head (λ tree. IsSound tree × (element_count tree ≡ length w)) t [] c.requires.sound in
    let count : c.in-Cover.count ≡ length w = eqb-true c.in-Cover.count (length w) (rw c.in-Cover.is at c.requires.header) in
    rw c.in-Cover.is (subst
    (λ n. IfOk c.cover_failure.result (λ found. found ≡ first_failure (cover_clauses n (is_independent t) c.in-Cover.sets c.in-Cover.cut)))
    (sound.1 ∙ sym count) (rw c.as_slice-in-Cover.ensures.items at c.cover_failure.ensures))
