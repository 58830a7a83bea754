use Rattle.mat_union.proofs.Common.{union_holds, union_only}
use Rattle.mat_union.proofs.laws.union_means_parts.Goals as goal

pub returns-clause-holds : goal.returns-clause-holds
returns-clause-holds c = λ n tests laws. union_holds tests laws

pub returns-clause-only : goal.returns-clause-only
returns-clause-only c = λ n tests laws. union_only tests laws
