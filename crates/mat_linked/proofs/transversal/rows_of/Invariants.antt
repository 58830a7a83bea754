use Rattle.mat_linked.proofs.EnteredSets.{AreEntered}
use Rattle.mat_linked.proofs.transversal.rows_of.Given as goal

-- the indices of the first sets are entered
abbrev pub invariant-loop-j : goal.invariant-loop-j
invariant-loop-j l = AreEntered l.count l.j l.family l.rows
