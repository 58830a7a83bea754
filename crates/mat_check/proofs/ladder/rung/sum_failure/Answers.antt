use Rattle.mat_check.proofs.Common.{length, sym, arith, not-false, not-true, sum_clause}
use Rattle.mat_check.proofs.FailingClauses.{first_below, none_below}
use Rattle.mat_check.proofs.ladder.rung.sum_failure.Goals as goal

pub returns-in-Some : goal.returns-in-Some
returns-in-Some c =
    let clause = sum_clause c.args.weights.now c.args.k c.args.first.now c.args.second.now in
    let found = rw c.in-Some.is at c.first_unsplit.ensures in
    rw c.at.ensures (sym (first_below clause (length c.args.weights.now) c.in-Some.e found.0
    (none_below clause c.in-Some.e (λ x l. not-false _ (found.1.none_before x (omega arith) l))) (not-true _ found.1.passes)))

pub returns-in-None : goal.returns-in-None
returns-in-None c =
    let found = rw c.in-None.is at c.first_unsplit.ensures in
    sym (none_below (sum_clause c.args.weights.now c.args.k c.args.first.now c.args.second.now) (length c.args.weights.now) found)
