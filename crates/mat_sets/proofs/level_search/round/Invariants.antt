use Rattle.mat_sets.proofs.Common.{take, IsRound}
use Rattle.mat_sets.proofs.level_search.round.Given as goal

abbrev pub invariant-loop-u : goal.invariant-loop-u
invariant-loop-u g l = IsRound (g.R.Relation.arc l.relation)
    (take l.u-index l.frontier) l.fn.unreached l.fn.before.items l.unreached l.found.items l.before.items
