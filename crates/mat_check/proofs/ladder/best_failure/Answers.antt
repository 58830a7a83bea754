use Rattle.mat_check.proofs.Common.{ℕ, length, slice_get, sym, ap, subst, ◌∙◌, IfOk-weaker, is_independent, tree_of, AreRangedRungs, IsRangedPlainRung, last_rung, first_failure, numbered_clauses, plain_rung_clauses, last_clause}
use Rattle.mat_check.proofs.FailingClauses.{first_in_back, first_in_front}
use Rattle.mat_check.proofs.ladder.best_failure.Goals as goal

pub returns-in-Some : goal.returns-in-Some
returns-in-Some g c =
    let p = is_independent (tree_of c.args.m.now) in
    let w = c.args.weights.now in
    let rungs = c.args.rungs.now in
    sym (first_in_front (numbered_clauses (plain_rung_clauses (length w) p w) 0 rungs)
    (last_clause (length w) p (last_rung rungs) (slice_get rungs (last_rung rungs))) c.in-Some.failure
    (sym c.in_ok-failure.ensures ∙ c.in-Some.is))

pub last_failure-requires-clause-ranged : goal.last_failure-requires-clause-ranged
last_failure-requires-clause-ranged g c κs =
    subst (λ n. AreRangedRungs (IsRangedPlainRung n) n c.args.rungs.now) c.requires.lengths c.requires.ranged

pub returns : goal.returns
returns g c =
    let p = is_independent (tree_of c.args.m.now) in
    let w = c.args.weights.now in
    let rungs = c.args.rungs.now in
    let end = λ (n : ℕ). last_clause n p (last_rung rungs) (slice_get rungs (last_rung rungs)) in
    IfOk-weaker c.last_failure.result _ _ (λ found h. h ∙ ap (λ n. first_failure (end n)) (sym c.requires.lengths)
    ∙ sym (first_in_back (numbered_clauses (plain_rung_clauses (length w) p w) 0 rungs) (end (length w))
    (sym c.in_ok-failure.ensures ∙ c.in_default.is))) c.last_failure.ensures
