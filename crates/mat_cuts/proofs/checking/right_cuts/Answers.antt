use Rattle.mat_cuts.proofs.Common.{◌↔◌, IfOk, IsTrue, sym, subst, AreRight, AreRightCuts, IsUnentered}
use Rattle.mat_cuts.proofs.checking.right_cuts.Goals as goal

pub returns-in-Tree : goal.returns-in-Tree
returns-in-Tree c =
    let vertices = c.args.vertices in
    let arcs = c.args.arcs.now in
    let costs = c.args.costs.now in
    let root = c.args.root in
    let result = c.are_right_cuts.result in
    let tree = c.in-Tree.tree in
    subst (λ k. IfOk result (λ right. IsTrue right ↔ AreRight vertices arcs costs root k)) (sym c.in-Tree.is)
    (subst (λ k. IfOk result (λ right. IsTrue right ↔ AreRightCuts vertices k costs root tree c.in-Tree.cuts.items)) c.as_slice-ends.ensures
    (subst (λ k. IfOk result (λ right. IsTrue right ↔ AreRightCuts vertices c.as_slice-ends.result.now costs root tree k)) c.deref.ensures.value
    c.are_right_cuts.ensures))

pub returns-in-Unreached : goal.returns-in-Unreached
returns-in-Unreached c =
    let vertices = c.args.vertices in
    let arcs = c.args.arcs.now in
    let root = c.args.root in
    let result = c.is_unreached.result in
    subst (λ k. IfOk result (λ right. IsTrue right ↔ AreRight vertices arcs c.args.costs.now root k)) (sym c.in-Unreached.is)
    (subst (λ k. IfOk result (λ right. IsTrue right ↔ IsUnentered vertices k root c.in-Unreached.set)) c.as_slice-ends.ensures
    c.is_unreached.ensures)
