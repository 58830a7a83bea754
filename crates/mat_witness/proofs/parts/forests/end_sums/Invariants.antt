-- The edges from place i on are added.
use Rattle.mat_witness.proofs.Common.{drop, ends_of, IsSumTable}
use Rattle.mat_witness.proofs.parts.forests.end_sums.Given as goal

abbrev pub invariant-loop-i : goal.invariant-loop-i
invariant-loop-i l = record {
  degree : IsSumTable (λ e. 1) (ends_of l.edges) (drop l.i l.set) l.vertices l.degree.items;
  sum : IsSumTable (λ e. e) (ends_of l.edges) (drop l.i l.set) l.vertices l.sum.items;
}
