use Rattle.mat_union.proofs.Common.{union_laws}
use Rattle.mat_union.proofs.laws.union_is_matroid.Goals as goal

pub returns : goal.returns
returns c = λ n tests laws. union_laws tests laws
