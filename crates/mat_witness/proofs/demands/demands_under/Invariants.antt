-- The demands of the values so far are listed.
use Rattle.mat_witness.proofs.Common.{◌≡◌, filter, ltb, map, take, falling_weights, Tree, demand_for, demand_at}
use Rattle.mat_witness.proofs.demands.demands_under.Given as goal

abbrev pub invariant-loop-at : goal.invariant-loop-at
invariant-loop-at l = (tree : Tree) → map (demand_for tree) l.demands.items
    ≡ filter (λ demand. ltb demand.most l.k) (map (demand_at tree l.set l.half) (take l.at-index (falling_weights l.half)))
