use Rattle.mat_union.proofs.Common.{map, family_union, IsRunning, AreGrowing, AreKept, union_test}
use Rattle.mat_union.proofs.running.run_along.Given as goal

abbrev pub invariant-loop-x : goal.invariant-loop-x
invariant-loop-x g l = record {
  growing : AreGrowing l.n (map g.M.Asked.indep l.matroids) l.growth.parts l.growth.spanned l.growth.unspanned;
  kept : AreKept g.M.Asked.keeps l.matroids l.growth.parts l.growth.kept.items;
  running : IsRunning (union_test l.n (map g.M.Asked.indep l.matroids)) l.order l.x-index (family_union l.growth.parts);
}
