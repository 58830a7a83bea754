use Rattle.mat_union.proofs.Common.{map, AreDone, AreGrowing, AreKept}
use Rattle.mat_union.proofs.LevelSteps.{came, AreLevelsSo}
use Rattle.mat_union.proofs.best.best_union.Given as goal

abbrev pub invariant-loop-at : goal.invariant-loop-at
invariant-loop-at g l = record {
  growing : AreGrowing l.n (map g.M.Matroid.indep l.matroids) l.growth.parts l.growth.spanned l.growth.unspanned;
  kept : AreKept g.M.Matroid.keeps l.matroids l.growth.parts l.growth.kept.items;
  done : AreDone l.n (came l.weights l.at-index) l.growth.parts l.growth.spanned;
  levels : AreLevelsSo l.n (map g.M.Matroid.indep l.matroids) l.weights l.at-index l.growth.parts l.levels.items;
}
