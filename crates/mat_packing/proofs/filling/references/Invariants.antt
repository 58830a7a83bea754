use Rattle.mat_packing.proofs.Common.{◌≡◌, length, All}
use Rattle.mat_packing.proofs.filling.references.Given as goal

abbrev pub invariant-loop : goal.invariant-loop
invariant-loop g l = record {
  long : length l.copies.items ≡ l.counter;
  same : All (λ r. r.now ≡ l.m) l.copies.items;
}
