use Rattle.mat_check.proofs.Common.{◌∙◌, length, ap, arith, is_independent, tree_of, plain_rung_clauses, first_in_order}
use Rattle.mat_check.proofs.RungFailures.{first_of_found, length-rungs_failures}
use Rattle.mat_check.proofs.ladder.rungs.plain_rungs_failure.Goals as goal

pub returns : goal.returns
returns g c =
    let clauses = plain_rung_clauses (length c.args.weights.now) (is_independent (tree_of c.args.m.now)) c.args.weights.now in
    c.first_found.ensures ∙ ap first_in_order c.deref.ensures.value
    ∙ first_of_found clauses c.args.rungs.now c.in_ok-failures.failures.items c.in_ok-failures.ensures.count
    c.in_ok-failures.ensures.rows

pub plain_failures-requires-clause-below : goal.plain_failures-requires-clause-below
plain_failures-requires-clause-below g c =
    let clauses = plain_rung_clauses (length c.args.weights.now) (is_independent (tree_of c.args.m.now)) c.args.weights.now in
    let count = length-rungs_failures clauses 0 c.args.rungs.now in
    omega (arith, count)
