use Rattle.mat_gf2.specs.Gf2Laws.{gf2_laws as law}
use Rattle.mat_gf2.proofs.laws.gf2_laws.Goals as goal

pub returns : goal.returns
returns c = law
