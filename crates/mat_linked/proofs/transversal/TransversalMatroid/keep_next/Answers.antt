use Rattle.mat_linked.proofs.Common.{◌∙◌, ap, length, sym}
use Rattle.mat_linked.proofs.KeptRows.{base_below, base_matchable, indices_of}
use Rattle.mat_linked.proofs.transversal.TransversalMatroid.keep_next.Goals as goal

pub next-requires-clause-long : goal.next-requires-clause-long
next-requires-clause-long c = c.requires.kept.long ∙ sym (c.len.ensures.count ∙ ap (λ m. length m.sets) c.self.view_is)

pub next-requires-clause-matching : goal.next-requires-clause-matching
next-requires-clause-matching c = c.requires.kept.matching _ (indices_of _ c.args.self.now _ c.self.view_is c.self.invariant)

pub next-requires-clause-below : goal.next-requires-clause-below
next-requires-clause-below c =
    let m = c.args.self.now in
    base_below m.count m.sets _ c.args.next.now (indices_of _ m _ c.self.view_is c.self.invariant) c.requires.next

pub next-requires-clause-matchable : goal.next-requires-clause-matchable
next-requires-clause-matchable c =
    let m = c.args.self.now in
    base_matchable _ m _ c.args.next.now c.len.result c.self.view_is c.len.ensures.count (indices_of _ m _ c.self.view_is c.self.invariant)
    c.requires.next
