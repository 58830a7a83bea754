use Rattle.mat_any.proofs.Common.{[], map, family_union, IsRunning, AreMadeSo, AreTakenSo, AreKeptAnew, AreKeptSo, AreGrowing, AreKept, all_moved, size_in, test_in, union_in, KeepsOne}
use Rattle.mat_laws.proofs.Growing.{IsGrowing}
use Rattle.mat_any.proofs.runs.+running.Given as goal

abbrev pub invariant-grown_parts-loop-x : goal.invariant-grown_parts-loop-x
invariant-grown_parts-loop-x l = record {
  growing : AreGrowing (size_in l.matroids) (map test_in l.matroids) l.growth.parts l.growth.spanned l.growth.unspanned;
  kept : AreKept KeepsOne l.matroids l.growth.parts l.growth.kept.items;
  running : IsRunning (union_in l.matroids) l.order l.x-index (family_union l.growth.parts);
}

abbrev pub invariant-keep_each-loop-i : goal.invariant-keep_each-loop-i
invariant-keep_each-loop-i l = AreKeptSo KeepsOne l.matroids l.parts l.i l.kept.items

abbrev pub invariant-make_moves-loop-i : goal.invariant-make_moves-loop-i
invariant-make_moves-loop-i l = record {
  parts : AreMadeSo l.fn.parts l.moves l.i l.parts;
  kept : AreKeptAnew KeepsOne l.matroids l.fn.parts (all_moved l.fn.parts l.moves) l.i l.kept.items;
}

abbrev pub invariant-greedy_parts-loop-i : goal.invariant-greedy_parts-loop-i
invariant-greedy_parts-loop-i l = AreTakenSo (map test_in l.matroids) l.set l.i l.parts.items l.rest

abbrev pub invariant-filled_parts-loop-x : goal.invariant-filled_parts-loop-x
invariant-filled_parts-loop-x l = record {
  growing : AreGrowing (size_in l.matroids) (map test_in l.matroids) l.growth.parts l.growth.spanned l.growth.unspanned;
  kept : AreKept KeepsOne l.matroids l.growth.parts l.growth.kept.items;
  grown : IsGrowing (union_in l.matroids) [] l.x-items l.x-index (family_union l.growth.parts);
}
