use Rattle.mat_graphic.proofs.Common.{length, ends_of, IsRunning, is_graphic, least_merged, IsDescending, IsParentTable}
use Rattle.mat_graphic.proofs.graphic.forest_along.Given as goal

-- the set has come over the edges so far, and the table is of its components
abbrev pub invariant-loop-x : goal.invariant-loop-x
invariant-loop-x l =
    record {
      running : IsRunning (is_graphic (length l.edges) (ends_of l.edges)) l.order l.x-index l.set;
      descending : IsDescending l.parent;
      united : IsParentTable (least_merged (ends_of l.edges) l.set) l.parent;
    }
