use Rattle.mat_graphic.proofs.Common.{drop, ends_of, least_merged, IsDescending, IsParentTable}
use Rattle.mat_graphic.proofs.graphic.unite_all.Given as goal

-- the edges from place i on are united
abbrev pub invariant-loop-i : goal.invariant-loop-i
invariant-loop-i l = record { descending : IsDescending l.parent; united : IsParentTable (least_merged (ends_of l.edges) (drop l.i l.set)) l.parent }
