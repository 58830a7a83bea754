use Rattle.mat_top.proofs.PayableCosts.{payable_costs}
use Rattle.mat_top.proofs.cuts_text.payable_text.Goals as goal

pub cheapest-requires-clause-range : goal.cheapest-requires-clause-range
cheapest-requires-clause-range c =
    rw (c.deref.ensures.value, c.in_ok-mains.ensures) (payable_costs c.args.costs.now c.requires.valid.5 c.requires.payable)

pub total_cost-cost-requires-clause-range : goal.total_cost-cost-requires-clause-range
total_cost-cost-requires-clause-range c =
    rw (c.deref-in-Tree.ensures.value, c.in_ok-mains.ensures) (payable_costs c.args.costs.now c.requires.valid.5 c.requires.payable)
