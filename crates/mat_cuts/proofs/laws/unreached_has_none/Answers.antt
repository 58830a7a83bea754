use Rattle.mat_sets.proofs.Crossings.{unentered_has_none as law}
use Rattle.mat_cuts.proofs.laws.unreached_has_none.Goals as goal

pub returns : goal.returns
returns c = law
