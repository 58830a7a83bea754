use Rattle.mat_linked.proofs.KeptRows.{base_below, base_matchable, indices_of}
use Rattle.mat_linked.proofs.transversal.TransversalMatroid.keep.Goals as goal

pub new-requires-clause-below : goal.new-requires-clause-below
new-requires-clause-below c =
    let m = c.args.self.now in
    base_below m.count m.sets _ c.args.base.now (indices_of _ m _ c.self.view_is c.self.invariant) c.requires.base

pub new-requires-clause-matchable : goal.new-requires-clause-matchable
new-requires-clause-matchable c =
    let m = c.args.self.now in
    base_matchable _ m _ c.args.base.now c.len.result c.self.view_is c.len.ensures.count (indices_of _ m _ c.self.view_is c.self.invariant)
    c.requires.base
