use Rattle.mat_linked.specs.GammoidLaws.{gammoid_laws as law}
use Rattle.mat_linked.proofs.laws.gammoid_laws.Goals as goal

pub returns : goal.returns
returns c = law
