use Rattle.mat_facts.proofs.SufficientFacts.{facts_suffice}
use Rattle.mat_facts.proofs.laws.facts_suffice.Goals as goal

pub returns : goal.returns
returns c = facts_suffice
