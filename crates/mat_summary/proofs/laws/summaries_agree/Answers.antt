use Rattle.mat_summary.proofs.OneSummary.{one_summary}
use Rattle.mat_summary.proofs.laws.summaries_agree.Goals as goal

pub returns : goal.returns
returns c = one_summary
