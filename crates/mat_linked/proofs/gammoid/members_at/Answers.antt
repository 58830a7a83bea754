use Rattle.mat_linked.proofs.Common.{◌∙◌, length, get_or, ap, sym, with_one, filter-found, filter-passed, IsRising-found, AllBelow-at, has_vertex_in}
use Rattle.mat_linked.proofs.gammoid.members_at.Goals as goal
use Rattle.mat_linked.proofs.gammoid.members_at.Goals.{then-contains+in_ok-add, else-contains}

pub bounds-targets-e : goal.bounds-targets-e
bounds-targets-e c = AllBelow-at (length c.args.targets.now) c.args.elements.now c.loop-e.e-index c.requires.below c.loop-e-test.true

pub loop-e-preserved : goal.loop-e-preserved
loop-e-preserved c =
    let elements = c.args.elements.now in
    let i = c.loop-e.e-index in
    let told = sym c.contains.ensures in
    elim c.if-contains.branch [
      | then-contains+in_ok-add w ↦ w.found-is ∙ w.in_ok-add.ensures.ok.1 ∙ ap (λ s. with_one s (get_or elements i 0)) c.loop-e.invariant
          ∙ filter-found (has_vertex_in c.args.targets.now c.args.vertices.now) elements i c.requires.rises c.loop-e-test.true
          (told ∙ w.if-contains.true)
      | else-contains w ↦ w.found-is ∙ c.loop-e.invariant
          ∙ filter-passed (has_vertex_in c.args.targets.now c.args.vertices.now) elements i c.loop-e-test.true (told ∙ w.if-contains.false)
    ]

pub returns-clause-rises : goal.returns-clause-rises
returns-clause-rises c =
    IsRising-found (has_vertex_in c.args.targets.now c.args.vertices.now) c.args.elements.now c.loop-e.found c.loop-e.e-index c.requires.rises
    c.loop-e.invariant
