use Rattle.mat_fronts.proofs.Ladders.{missing_colours_exclude}
use Rattle.mat_fronts.proofs.laws.missing_colours_exclude_trees.Goals as goal

pub returns : goal.returns
returns c = λ vertices edges colours colour_of C g. missing_colours_exclude vertices edges colours colour_of g C
