use Rattle.mat_graphic.proofs.Common.{drop, ends_of, IsForest, least_merged, IsDescending, IsParentTable}
use Rattle.mat_graphic.proofs.graphic.are_forest.Given as goal

-- the edges from place i on are united, and are a forest
abbrev pub invariant-loop-i : goal.invariant-loop-i
invariant-loop-i l =
    record {
      descending : IsDescending l.parent;
      united : IsParentTable (least_merged (ends_of l.edges) (drop l.i l.set)) l.parent;
      forest : IsForest (ends_of l.edges) (drop l.i l.set);
    }
