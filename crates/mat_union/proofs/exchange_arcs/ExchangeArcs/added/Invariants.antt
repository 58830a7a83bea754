use Rattle.mat_union.proofs.Common.{take, AreAdded}
use Rattle.mat_union.proofs.exchange_arcs.ExchangeArcs.added.Given as goal

-- the rows of the first members are added
abbrev pub invariant-loop-y : goal.invariant-loop-y
invariant-loop-y l = AreAdded l.self.entering (take l.y-index l.members) l.self.into.items l.added
