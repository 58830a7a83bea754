use Rattle.mat_fronts.proofs.Ladders.{missing_colours_of_cut}
use Rattle.mat_fronts.proofs.laws.colours_on_a_cut_are_missing.Goals as goal

pub returns : goal.returns
returns c = λ vertices edges colours colour_of k cut C g colouring is_cut few rising labels.
    missing_colours_of_cut vertices edges colours colour_of g colouring k cut C is_cut labels rising few
