use Rattle.mat_linked.proofs.Common.{◌∙◌, ap, filter, set_of_vertices, has_vertex_in}
use Rattle.mat_linked.proofs.LinkedRows.{row_addable, row_by_ways, vertex_outside}
use Rattle.mat_linked.proofs.gammoid.row_by_paths.Goals as goal

pub returns-in_ok-with-in-None-clause-row : goal.returns-in_ok-with-in-None-clause-row
returns-in_ok-with-in-None-clause-row c = λ vertices arcs is given ok out k.
    let sources = c.args.sources.now in
    let targets = c.args.targets.now in
    let base = c.args.base.now in
    let x = c.args.x in
    let new = vertex_outside vertices arcs sources targets given base ok x c.requires.element out in
    row_addable vertices arcs sources targets given base ok x c.requires.element out c.in_ok-with-in-None.with
    (rw c.in-None.is at (c.in_ok-giving_way.ensures.ways vertices arcs (set_of_vertices targets base) is k.reroutes new)) c.in_ok-with-in-None.ensures.equal

pub returns-in_ok-with-in-Some-clause-row : goal.returns-in_ok-with-in-Some-clause-row
returns-in_ok-with-in-Some-clause-row c = λ vertices arcs is given ok out k.
    let sources = c.args.sources.now in
    let targets = c.args.targets.now in
    let base = c.args.base.now in
    let x = c.args.x in
    let new = vertex_outside vertices arcs sources targets given base ok x c.requires.element out in
    row_by_ways vertices arcs sources targets given base ok x c.requires.element out c.in_ok-with-in-Some.with c.in-Some.ways
    (rw c.in-Some.is at (c.in_ok-giving_way.ensures.ways vertices arcs (set_of_vertices targets base) is k.reroutes new))
    (c.in_ok-with-in-Some.ensures.members ∙ ap (filter (has_vertex_in targets c.in-Some.ways)) c.as_slice.ensures.items)
