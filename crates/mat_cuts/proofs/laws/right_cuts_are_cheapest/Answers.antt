use Rattle.mat_cuts.proofs.Bounds.{right_cuts_are_cheapest as law}
use Rattle.mat_cuts.proofs.laws.right_cuts_are_cheapest.Goals as goal

pub returns : goal.returns
returns c = law
