use Rattle.mat_minors.specs.MinorLaws.{truncated_laws as law}
use Rattle.mat_minors.proofs.laws.truncated_laws.Goals as goal

pub returns : goal.returns
returns c = law
