use Rattle.mat_sets.proofs.Common.{rules}
use Rattle.mat_sets.proofs.Places.{is_ok-place}
use Rattle.mat_sets.proofs.elem_set.ElemSet.contains.Goals as goal

pub returns-clause-found : goal.returns-clause-found
returns-clause-found c = let m = is_ok-place _ _ _ c.place.ensures in search rules
