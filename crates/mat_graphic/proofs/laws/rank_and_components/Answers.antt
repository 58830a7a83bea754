use Rattle.mat_graphic.proofs.ComponentCounts.{rank_and_number}
use Rattle.mat_graphic.proofs.laws.rank_and_components.Goals as goal

pub returns : goal.returns
returns c = λ n vertices ends X set below. rank_and_number ends n vertices X set below
