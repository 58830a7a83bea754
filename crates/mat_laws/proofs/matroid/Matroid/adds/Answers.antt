use Rattle.mat_laws.proofs.Common.{ap, Exchange}
use Rattle.mat_laws.proofs.matroid.Matroid.adds.Goals as goal

pub returns : goal.returns
returns g c = ap (λ (r : Exchange). r.addable) c.in_ok-row.ensures.row
