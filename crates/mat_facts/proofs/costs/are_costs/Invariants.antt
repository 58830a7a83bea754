-- Whether no cost is below 0 is left to those from place i on.
use Rattle.mat_facts.proofs.Common.{◌≡◌, are_costs}
use Rattle.std.proofs.Common.{drop}
use Rattle.mat_facts.proofs.costs.are_costs.Given as goal

abbrev pub invariant-loop-i : goal.invariant-loop-i
invariant-loop-i l = are_costs l.costs ≡ are_costs (drop l.i l.costs)
