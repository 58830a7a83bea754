use Rattle.mat_union.proofs.Common.{map, AreKept, AreParts}
use Rattle.mat_union.proofs.PartsOfSets.{AreComingIn}
use Rattle.mat_union.proofs.kept_parts.parts_of.Given as goal

abbrev pub invariant-loop-x : goal.invariant-loop-x
invariant-loop-x g l = record {
  are : AreParts (map g.M.Asked.indep l.matroids) l.held.parts;
  kept : AreKept g.M.Asked.keeps l.matroids l.held.parts l.held.kept.items;
  coming : AreComingIn l.x-items l.set l.x-index l.held.parts;
}
