use Rattle.mat_linked.proofs.Common.{◌≡◌, ◌∙◌, if◌then◌else◌, length, get_or, refl, with_one, AllBelow-at, set_of_vertices}
use Rattle.mat_linked.proofs.LinkedRuns.{vertex_is_new, IsLinkedRun-next, IsLinkedRun-start}
use Rattle.mat_linked.proofs.gammoid.link_along.Goals as goal
use Rattle.mat_linked.proofs.gammoid.link_along.Goals.{then-branch+in_ok-add, else-branch}

pub loop-x-init : goal.loop-x-init
loop-x-init c =
    let graph = c.args.graph.now in
    IsLinkedRun-start graph.vertices graph.arcs c.args.sources.now c.args.targets.now c.requires.gammoid c.args.order.now c.new-set.result
    c.in_ok-links.links c.new-set.ensures.members (rw c.vertices.ensures.count at (c.in_ok-links.ensures graph.arcs c.args.sources.now))

pub bounds-targets-x : goal.bounds-targets-x
bounds-targets-x c = AllBelow-at (length c.args.targets.now) c.args.order.now c.loop-x.x-index c.requires.below c.loop-x-test.true

pub loop-x-preserved : goal.loop-x-preserved
loop-x-preserved c =
    let graph = c.args.graph.now in
    let sources = c.args.sources.now in
    let targets = c.args.targets.now in
    let order = c.args.order.now in
    let i = c.loop-x.x-index in
    let x = get_or order i 0 in
    let set = c.loop-x.set in
    let found = c.in_ok-link.field-0 in
    let r = c.loop-x.invariant in
    let told = c.in_ok-link.ensures.answer (set_of_vertices targets set) r.linked in
    let below = AllBelow-at (length targets) order i c.requires.below c.loop-x-test.true in
    let new = vertex_is_new graph.vertices graph.arcs sources targets c.requires.gammoid order i x set c.loop-x.links c.requires.distinct
    c.loop-x-test.true refl below r in
    let is : c.if-branch.set ≡ (if found then with_one set x else set) = elim c.if-branch.branch [
      | then-branch+in_ok-add w ↦ rw w.if-branch.true (w.set-is ∙ w.in_ok-add.ensures.ok.1)
      | else-branch w ↦ rw w.if-branch.false w.set-is
    ] in
    IsLinkedRun-next graph.vertices graph.arcs sources targets c.requires.gammoid order i x set c.loop-x.links c.requires.distinct
    c.loop-x-test.true refl below r found c.link.new.self c.if-branch.set
    (c.in_ok-link.ensures.ends (set_of_vertices targets set) r.linked) (λ e. (told.0 e).1, λ p. told.1 (new, p)) is
