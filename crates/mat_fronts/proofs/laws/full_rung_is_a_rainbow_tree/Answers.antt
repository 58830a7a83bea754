use Rattle.mat_fronts.proofs.Ladders.{tree_of_rung}
use Rattle.mat_fronts.proofs.laws.full_rung_is_a_rainbow_tree.Goals as goal

pub returns : goal.returns
returns c = λ vertices edges colours colour_of w k set first second g colouring.
    tree_of_rung vertices edges colours colour_of g colouring w k set first second
