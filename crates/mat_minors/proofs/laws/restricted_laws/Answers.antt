use Rattle.mat_minors.specs.MinorLaws.{restricted_laws as law}
use Rattle.mat_minors.proofs.laws.restricted_laws.Goals as goal

pub returns : goal.returns
returns c = law
