use Rattle.mat_union.proofs.SoundMatroids.{AreKeptSo}
use Rattle.mat_union.proofs.growth.keep_all.Given as goal

abbrev pub invariant-loop-i : goal.invariant-loop-i
invariant-loop-i g l = AreKeptSo g.M.Asked.keeps l.matroids l.parts l.i l.kept.items
