-- The pairs so far are judged.
use Rattle.mat_witness.proofs.Common.{ends_of}
use Rattle.mat_witness.proofs.BroughtVertices.{IsJudging}
use Rattle.mat_witness.proofs.parts.forests.brings_each.Given as goal

abbrev pub invariant-loop-pair : goal.invariant-loop-pair
invariant-loop-pair l = IsJudging (ends_of l.edges) l.pairs l.pair-index l.vertices l.touched.items
