-- An arc that leaves the reached vertices and can be spared is taken: the tree grows by it and its head, until all vertices are reached.
use Rattle.mat_branch.proofs.Common.{◌∙◌, ◌+◌, length, ap, subst, sym, arith, ends_of, with_one, without_one}
use Rattle.mat_branch.proofs.Choices.{IsGrowing, IsGrowing-end, IsGrowing-start, IsGrowing-take}
use Rattle.mat_branch.proofs.GrowthSteps.{Grows-start}
use Rattle.mat_branch.proofs.growing.grow_tree.Goals as goal

pub loop-init : goal.loop-init
loop-init c =
    let vertices = c.args.graph.now.vertices in
    let arcs = c.args.graph.now.arcs in
    let root = c.args.root in
    let first = c.args.live.now in
    IsGrowing-start vertices (length arcs) root (ends_of arcs) first c.args.m c.new-reached.result c.insert.new.self c.new-tree.result c.new-refused.result
    c.new-reached.ensures c.in_ok-insert.ensures.ok c.new-tree.ensures.members c.new-refused.ensures
    (Grows-start vertices (length arcs) root (ends_of arcs) first c.args.m c.requires.live c.requires.root c.requires.entered)

pub loop-preserved : goal.loop-preserved
loop-preserved c =
    let vertices = c.args.graph.now.vertices in
    let arcs = c.args.graph.now.arcs in
    let ends = ends_of arcs in
    let root = c.args.root in
    let first = c.args.live.now in
    let m = c.args.m in
    let a = c.in_ok-a.a in
    let n = c.loop.counter + 1 in
    let more = c.next_arc.new.refused in
    let head = ap (λ p. p.1) (c.get.ensures ∙ ap (λ l. ends_of l a) c.arcs.ensures.arcs) in
    let live = c.take_out.ensures.items in
    let reached = c.in_ok-insert-2.ensures.ok ∙ ap (with_one c.loop.reached) head in
    let tree = c.in_ok-add.ensures.ok.1 in
    let next = IsGrowing-take vertices (length arcs) root ends first m c.loop.counter c.loop.live c.loop.reached c.loop.tree c.loop.refused more a
    c.loop.invariant c.in_ok-a.ensures.arc c.in_ok-a.ensures.refused in
    subst (λ l. IsGrowing vertices (length arcs) root ends first m n l c.insert-in-loop.new.self c.add.new.self more) (sym live)
    (subst (λ r. IsGrowing vertices (length arcs) root ends first m n (without_one c.loop.live a) r c.add.new.self more) (sym reached)
    (subst (λ t. IsGrowing vertices (length arcs) root ends first m n (without_one c.loop.live a) (with_one c.loop.reached (ends a).1) t more) (sym tree) next))

pub returns : goal.returns
returns c =
    let vertices = c.args.graph.now.vertices in
    let arcs = c.args.graph.now.arcs in
    IsGrowing-end vertices (length arcs) c.args.root (ends_of arcs) c.args.live.now c.args.m c.loop.counter c.loop.live c.loop.reached c.loop.tree c.loop.refused
    c.loop.invariant (omega (arith, c.loop-test.false, c.loop.auto.counter-end, c.vertices-end.ensures.count, c.requires.root))
