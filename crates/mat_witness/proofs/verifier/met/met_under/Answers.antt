use Rattle.mat_witness.proofs.Common.{sym, subst, IsSet, element_count, tree_of}
use Rattle.std.specs.List.{All}
use Rattle.mat_witness.proofs.SplitBounds.{asked_sets}
use Rattle.mat_witness.proofs.verifier.met.met_under.Goals as goal

pub are_met-requires-clause-sets : goal.are_met-requires-clause-sets
are_met-requires-clause-sets c =
    let tree = tree_of c.args.matroid.now in
    subst (All (λ demand. IsSet (element_count tree) demand.set)) (sym c.deref.ensures.value)
    (asked_sets (element_count tree) tree c.args.k c.args.set.now c.args.half.now c.in_ok-demands.demands.items
    c.requires.sound c.requires.valid c.requires.half (c.in_ok-demands.ensures tree))
