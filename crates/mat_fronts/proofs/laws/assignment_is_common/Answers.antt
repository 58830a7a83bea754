use Rattle.mat_fronts.proofs.Ladders.{assignment_common, assignment_from_common}
use Rattle.mat_fronts.proofs.laws.assignment_is_common.Goals as goal

pub returns : goal.returns
returns c = λ rows columns cells X t. (
  assignment_common rows columns cells X t,
  λ h. assignment_from_common rows columns cells X t h.0 h.1,
)
