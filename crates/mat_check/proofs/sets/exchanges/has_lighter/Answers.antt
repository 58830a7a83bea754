use Rattle.mat_check.proofs.Common.{◌∙◌}
use Rattle.mat_check.proofs.sets.exchanges.has_lighter.Goals as goal

pub returns : goal.returns
returns c = c.exceeds_least.ensures ∙ c.least_weight.ensures.tells c.args.other
