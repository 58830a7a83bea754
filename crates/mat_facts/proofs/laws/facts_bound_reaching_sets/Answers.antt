use Rattle.mat_facts.proofs.ReachingSets.{reaching_costs}
use Rattle.mat_facts.proofs.laws.facts_bound_reaching_sets.Goals as goal

pub returns : goal.returns
returns c = reaching_costs
