use Rattle.mat_check.proofs.Common.{sym, ◌∙◌, cost_clause}
use Rattle.mat_check.proofs.FailingClauses.{none_below_none, none_below_next, first_below}
use Rattle.mat_check.proofs.graphs.arborescence.cost_failure.Goals as goal

pub loop-e-init : goal.loop-e-init
loop-e-init c = none_below_none (cost_clause c.args.costs.now c.args.first.now c.args.second.now)

pub returns-then-not-negates : goal.returns-then-not-negates
returns-then-not-negates c =
    rw c.at.ensures (sym (first_below (cost_clause c.args.costs.now c.args.first.now c.args.second.now) _ c.loop-e.e c.loop-e-test.true c.loop-e.invariant
    (sym c.negates.ensures ∙ c.if-not-negates.true)))

pub loop-e-preserved : goal.loop-e-preserved
loop-e-preserved c =
    none_below_next (cost_clause c.args.costs.now c.args.first.now c.args.second.now) c.loop-e.e c.loop-e.invariant
    (sym c.negates.ensures ∙ c.if-not-negates.false)
