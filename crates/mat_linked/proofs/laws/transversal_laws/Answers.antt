use Rattle.mat_linked.specs.TransversalLaws.{transversal_laws as law}
use Rattle.mat_linked.proofs.laws.transversal_laws.Goals as goal

pub returns : goal.returns
returns c = law
