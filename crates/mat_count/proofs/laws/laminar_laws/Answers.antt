use Rattle.mat_count.proofs.Common.{counted_laws}
use Rattle.mat_count.proofs.laws.laminar_laws.Goals as goal

pub returns : goal.returns
returns c = counted_laws
