use Rattle.mat_witness.proofs.Common.{◌≡◌, length, AreLargestNamed, AreListed}
use Rattle.mat_witness.proofs.parts.counted.largest_sets.Given as goal

abbrev pub invariant-loop-place : goal.invariant-loop-place
invariant-loop-place l = record {
  long : length l.named.items ≡ l.count;
  listed : AreListed l.sets l.named.items;
  named : AreLargestNamed l.sets l.caps l.marks l.place l.count l.named.items;
}
