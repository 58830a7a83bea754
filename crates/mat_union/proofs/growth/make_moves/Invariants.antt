use Rattle.mat_union.proofs.Common.{all_moved}
use Rattle.mat_union.proofs.MadeMoves.{AreMadeSo}
use Rattle.mat_union.proofs.SoundMatroids.{AreKeptAnew}
use Rattle.mat_union.proofs.growth.make_moves.Given as goal

abbrev pub invariant-loop-i : goal.invariant-loop-i
invariant-loop-i g l = record {
  parts : AreMadeSo l.fn.parts l.moves l.i l.parts;
  kept : AreKeptAnew g.M.Asked.keeps l.matroids l.fn.parts (all_moved l.fn.parts l.moves) l.i l.kept.items;
}
