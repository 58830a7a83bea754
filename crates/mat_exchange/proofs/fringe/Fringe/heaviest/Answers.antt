use Rattle.mat_exchange.proofs.Common.{length, sym, is_member, weight_at}
use Rattle.mat_exchange.proofs.HeaviestMembers.{heaviest_below}
use Rattle.mat_exchange.proofs.fringe.Fringe.heaviest.Goals as goal

pub returns-clause-below : goal.returns-clause-below
returns-clause-below c =
    let members = c.self.inside.members in
    let gains = c.self.inside.gains.items in
    let heaviest = rw (c.as_slice.ensures.value, c.as_slice-2.ensures.value) at c.heaviest_top.ensures in
    rw (sym c.self.view_is) (heaviest_below (λ x. is_member x members) (weight_at gains) (length gains) c.heaviest_top.result
    c.self.invariant.below (heaviest members c.self.invariant))
