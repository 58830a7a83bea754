use Rattle.mat_exchange.proofs.Common.{◌*◌, ℕ, List, is_member, weight_at, IsHeaviestToOrNone, AreTops}
use Rattle.mat_exchange.proofs.tops.heaviest_top.Given as goal

abbrev pub invariant-loop-at : goal.invariant-loop-at
invariant-loop-at l = (members : List ℕ) → AreTops members l.gains l.tops
    → IsHeaviestToOrNone (λ x. is_member x members) (weight_at l.gains) (l.at * 64) l.heaviest
