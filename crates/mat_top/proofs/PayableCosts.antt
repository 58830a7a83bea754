-- Costs that weights of vertex sets can pay are within the bounds on costs of arcs.
use Rattle.mat_top.proofs.Common.{List, All, All-map, mains, IsPayable}
use Rattle.mat_sets.specs.declared.weight.Weight.{Weight}
use Rattle.mat_problem.specs.Validity.{IsWeight}
use Rattle.mat_cuts.specs.Costs.{IsCost}

pub payable_costs : (costs : List Weight) → All IsWeight costs → All IsPayable costs → All IsCost (mains costs)
payable_costs costs ranged payable = All-map IsCost (λ cost. cost.main) costs (λ k d lt. ((payable k d lt).main, (ranged k d lt).0.1))
