use Rattle.mat_flow.proofs.Common.{subst, sym, HasEnds, IsReversed}
use Rattle.mat_flow.proofs.PushedWalks.{after_below, rerouted_table}
use Rattle.mat_flow.proofs.reroutes.Reroutes.links.Goals as goal

pub after_table-requires-clause-below : goal.after_table-requires-clause-below
after_table-requires-clause-below c =
    let k = c.requires.3 in
    rw c.deref.ensures.value (after_below c.args.vertices k.before c.args.self.now.after.items k.table.table.long k.turned)

pub returns : goal.returns
returns c = λ arcs sources ends k.
    subst (HasEnds c.args.vertices arcs sources ends) (sym c.of_table.ensures)
    (rerouted_table c.args.vertices arcs sources ends c.args.self.now k c.in_ok-before.before.items
    (subst (λ a. IsReversed a c.in_ok-before.before.items) c.deref.ensures.value c.in_ok-before.ensures))
