use Rattle.mat_union.proofs.Common.{map, AreGrowing, AreKept}
use Rattle.mat_union.proofs.GrowthLoops.{AreComing}
use Rattle.mat_union.proofs.best.grow_by.Given as goal

abbrev pub invariant-loop-x : goal.invariant-loop-x
invariant-loop-x g l = record {
  growing : AreGrowing l.n (map g.M.Matroid.indep l.matroids) l.growth.parts l.growth.spanned l.growth.unspanned;
  kept : AreKept g.M.Matroid.keeps l.matroids l.growth.parts l.growth.kept.items;
  coming : AreComing l.n l.elements l.x-index l.fn.growth.parts l.fn.growth.spanned l.growth.parts l.growth.spanned;
}
