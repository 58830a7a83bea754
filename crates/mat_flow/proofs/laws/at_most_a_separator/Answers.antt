use Rattle.mat_flow.proofs.PathLaws.{at_most_a_separator as law}
use Rattle.mat_flow.proofs.laws.at_most_a_separator.Goals as goal

pub returns : goal.returns
returns c = law
