use Rattle.mat_minors.specs.MinorLaws.{contracted_laws as law}
use Rattle.mat_minors.proofs.laws.contracted_laws.Goals as goal

pub returns : goal.returns
returns c = law
