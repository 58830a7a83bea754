use Rattle.mat_minors.specs.MinorLaws.{dual_laws as law}
use Rattle.mat_minors.proofs.laws.dual_laws.Goals as goal

pub returns : goal.returns
returns c = law
