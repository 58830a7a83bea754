use Rattle.mat_graphic.specs.ForestLaws.{graphic_laws as law}
use Rattle.mat_graphic.proofs.laws.graphic_laws.Goals as goal

pub returns : goal.returns
returns c = law
