-- The bounds so far meet the demands so far.
use Rattle.mat_witness.proofs.Common.{take, tree_of}
use Rattle.std.specs.List.{AllZip}
use Rattle.mat_witness.proofs.MadeWitnesses.{IsMetBy}
use Rattle.mat_witness.proofs.make.half_bounds.Given as goal

abbrev pub invariant-loop-demand : goal.invariant-loop-demand
invariant-loop-demand l = AllZip (IsMetBy (tree_of l.matroid)) (take l.demand-index l.demand-items) l.bounds.items
