use Rattle.mat_union.proofs.Common.{◌≡◌, ◌<◌, ◌-◌, ◌∷◌, [], replicate}
use Rattle.mat_union.proofs.empty.first_parts.Given as goal

abbrev pub invariant-loop : goal.invariant-loop
invariant-loop l = record {
  some : 0 < l.counter;
  items : l.parts.items ≡ l.fn.first ∷ replicate (l.counter - 1) [];
}
