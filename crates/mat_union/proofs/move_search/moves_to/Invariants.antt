use Rattle.mat_union.proofs.MovesAlong.{AreMovesSo}
use Rattle.mat_union.proofs.move_search.moves_to.Given as goal

abbrev pub invariant-loop-i : goal.invariant-loop-i
invariant-loop-i l = AreMovesSo l.parts l.walk l.i l.moves.items
