use Rattle.mat_check.proofs.Common.{◌∙◌, length, ap, arith, subst, is_independent, tree_of, AreRangedRungs, IsRangedPricedRung, priced_rung_clauses, first_in_order}
use Rattle.mat_check.proofs.RungFailures.{first_of_found, length-rungs_failures}
use Rattle.mat_check.proofs.ladder.rungs.priced_rungs_failure.Goals as goal

pub returns : goal.returns
returns g c =
    let clauses = priced_rung_clauses (length c.args.pair.now.weights.now) (is_independent (tree_of c.args.pair.now.first.now))
    (is_independent (tree_of c.args.pair.now.second.now)) c.args.pair.now.weights.now in
    c.first_found.ensures ∙ ap first_in_order c.deref-3.ensures.value
    ∙ first_of_found clauses c.args.rungs.now c.in_ok-failures.failures.items c.in_ok-failures.ensures.count
    c.in_ok-failures.ensures.rows

pub beaten_rungs-requires-clause-ranged : goal.beaten_rungs-requires-clause-ranged
beaten_rungs-requires-clause-ranged g c =
    subst (λ n. AreRangedRungs (IsRangedPricedRung n) n c.args.rungs.now) c.requires.first_lengths c.requires.ranged

pub beaten_rungs-requires-2-clause-ranged : goal.beaten_rungs-requires-2-clause-ranged
beaten_rungs-requires-2-clause-ranged g c =
    subst (λ n. AreRangedRungs (IsRangedPricedRung n) n c.args.rungs.now) c.requires.second_lengths c.requires.ranged

pub priced_failures-requires-clause-below : goal.priced_failures-requires-clause-below
priced_failures-requires-clause-below g c =
    let clauses = priced_rung_clauses (length c.args.pair.now.weights.now) (is_independent (tree_of c.args.pair.now.first.now))
    (is_independent (tree_of c.args.pair.now.second.now)) c.args.pair.now.weights.now in
    let count = length-rungs_failures clauses 0 c.args.rungs.now in
    omega (arith, count)
