-- Whether the demands are met is whether those that are left are.
use Rattle.mat_witness.proofs.Common.{◌≡◌, drop, map, tree_of, demand_for, are_met, bound_part}
use Rattle.mat_witness.proofs.verifier.met.are_met.Given as goal

abbrev pub invariant-loop-i : goal.invariant-loop-i
invariant-loop-i l = are_met (map (demand_for (tree_of l.matroid)) l.demands) (map bound_part l.parts)
    ≡ are_met (map (demand_for (tree_of l.matroid)) (drop l.i l.demands)) (map bound_part (drop l.i l.parts))
