use Rattle.mat_flow.proofs.Common.{ℕ, List, Some, HasPathLeft}
use Rattle.mat_flow.proofs.PathsTakenOut.{others_in}
use Rattle.mat_flow.proofs.link_table.take_path_out.Given as goal

-- what is left of the path leads to the vertex that is left
abbrev pub invariant-loop-left : goal.invariant-loop-left
invariant-loop-left l = (vertices : ℕ) (arcs : List (ℕ × ℕ)) (sources rest : List ℕ) → HasPathLeft vertices arcs sources rest (Some l.v) l.fn.table.items
    → HasPathLeft vertices arcs sources rest l.left l.table.items

abbrev pub decreases-loop-left : goal.decreases-loop-left
decreases-loop-left l = others_in l.table.items
