use Rattle.mat_facts.proofs.SufficientBounds.{none_is_larger}
use Rattle.mat_facts.proofs.laws.facts_exclude_larger_sets.Goals as goal

pub returns : goal.returns
returns c = λ problem answer facts valid hold. none_is_larger problem answer facts valid hold
