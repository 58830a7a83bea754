-- Each turn packs one arborescence more and leaves enough live arcs for the others; a vertex set that too few arcs enter shows that no packing exists.
use Rattle.mat_branch.proofs.Common.{◌∙◌, length, ap, arith, ends_of, all_below}
use Rattle.mat_branch.specs.declared.branching.Branch.TheVariants.{All, Cut}
use Rattle.mat_branch.proofs.Packing.{entered_from_none, no_arborescences_told, seldom_from_some, IsPacking-done, IsPacking-push, IsPacking-start}
use Rattle.mat_branch.proofs.branching.disjoint.Goals as goal

pub loop-left-init : goal.loop-left-init
loop-left-init c =
    let arcs = c.args.graph.now.arcs in
    let same = c.in_ok-live.ensures.members ∙ ap all_below (c.len.ensures ∙ ap length c.arcs.ensures.arcs) in
    IsPacking-start c.args.graph.now.vertices (length arcs) c.args.root (ends_of arcs) c.args.k c.in_ok-live.live c.new-trees.result.items same
    c.new-trees.ensures.items (entered_from_none c.args.graph.now.vertices (length arcs) c.args.root (ends_of arcs) c.args.k c.in_ok-live.live
    c.in_ok-cut.field-0 same c.in_default.not-Some c.in_ok-cut.ensures)

pub returns-in-Some-clause-cut : goal.returns-in-Some-clause-cut
returns-in-Some-clause-cut c =
    let arcs = c.args.graph.now.arcs in
    let cut = c.in-Some.cut in
    no_arborescences_told c.args.graph.now.vertices (length arcs) c.args.root (ends_of arcs) c.args.k (Cut cut)
    (seldom_from_some c.args.graph.now.vertices (length arcs) c.args.root (ends_of arcs) c.args.k c.in_ok-live.live cut
    (c.in_ok-live.ensures.members ∙ ap all_below (c.len.ensures ∙ ap length c.arcs.ensures.arcs)) (rw c.in-Some.is at c.in_ok-cut.ensures))

pub loop-left-preserved : goal.loop-left-preserved
loop-left-preserved c =
    let arcs = c.args.graph.now.arcs in
    IsPacking-push c.args.graph.now.vertices (length arcs) c.args.root (ends_of arcs) c.args.k c.loop-left.left c.loop-left.live c.grow_tree.new.live
    c.in_ok-grow_tree.field-0 c.loop-left.trees.items c.push.new.self.items c.loop-left-test.true c.in_ok-push.ensures.items c.loop-left.invariant
    c.in_ok-grow_tree.ensures

pub returns-clause-right : goal.returns-clause-right
returns-clause-right c =
    let arcs = c.args.graph.now.arcs in
    IsPacking-done c.args.graph.now.vertices (length arcs) c.args.root (ends_of arcs) c.args.k c.loop-left.left c.loop-left.live c.loop-left.trees.items
    c.new.result (λ h. omega (arith, c.loop-left-test.false)) c.new.ensures.items c.loop-left.invariant

pub returns-clause-cut : goal.returns-clause-cut
returns-clause-cut c =
    no_arborescences_told c.args.graph.now.vertices (length c.args.graph.now.arcs) c.args.root (ends_of c.args.graph.now.arcs) c.args.k
    (All c.new.result) (returns-clause-right c)
