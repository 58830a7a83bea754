use Rattle.mat_facts.proofs.SufficientBounds.{each_size_is_bounded}
use Rattle.mat_facts.proofs.laws.facts_bound_all_weights.Goals as goal

pub returns : goal.returns
returns c = λ problem answer facts valid hold. each_size_is_bounded problem answer facts valid hold
