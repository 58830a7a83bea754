use Rattle.mat_exchange.proofs.Common.{◌<◌, length, ap, refl, sym, subst, ◌∙◌, is_member}
use Rattle.mat_exchange.proofs.FringeTops.{left_below, tops_left}
use Rattle.mat_exchange.proofs.fringe.Fringe.remove.Goals as goal

pub heaviest_in_bucket-top-requires-clause-below : goal.heaviest_in_bucket-top-requires-clause-below
heaviest_in_bucket-top-requires-clause-below c = λ y m.
    subst (λ gains. y < length gains) (sym c.as_slice.ensures.value)
    (left_below c.self.inside.members c.args.x c.remove.ensures c.self.invariant.below y (ap (is_member y) (sym c.as_words.ensures) ∙ m))

pub invariant_of-self : goal.invariant_of-self
invariant_of-self c =
    let below = rw (sym c.self.view_is) at c.requires.below in
    let found = rw (c.as_words.ensures, c.as_slice.ensures.value) at c.heaviest_in_bucket-top.ensures in
    tops_left c.args.x c.heaviest_in_bucket-top.result below c.remove.ensures found refl c.self.invariant
