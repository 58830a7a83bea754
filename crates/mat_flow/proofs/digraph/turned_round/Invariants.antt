use Rattle.mat_flow.proofs.Common.{◌≡◌, take, reversed_arcs}
use Rattle.mat_flow.proofs.digraph.turned_round.Given as goal

-- the first arcs are turned round
abbrev pub invariant-loop-tail : goal.invariant-loop-tail
invariant-loop-tail l = l.back.items ≡ reversed_arcs (take l.tail-index l.arcs)
