use Rattle.mat_witness.proofs.ShownRungs.{shown_is_best as law}
use Rattle.mat_witness.proofs.laws.shown_is_best.Goals as goal

pub returns : goal.returns
returns c = law
