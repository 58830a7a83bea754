-- The clauses come in turn: the lists are paths from sources, they end at the members, and no vertex is in two places.
use Rattle.mat_witness.proofs.Common.{◌≡◌, ℕ, Bool, true, false, List, map, sym, ap, ◌∙◌, not-false, not-true, IfOk-weaker, are_distinct, last_of, vertices_of}
use Rattle.std.specs.List.{list_all}
use Rattle.std.specs.Str.{bytes_eq}
use Rattle.mat_witness.proofs.ArcRows.{AreArcRows-read}
use Rattle.mat_witness.proofs.PathParts.{is_source_path, shows_paths-by_vertices, shows_paths-elsewhere, shows_paths-off}
use Rattle.mat_witness.proofs.parts.gammoids.paths.shows_paths.Goals as goal

pub returns-then-not-are_from_sources : goal.returns-then-not-are_from_sources
returns-then-not-are_from_sources c =
    let m = c.args.matroid.now in
    let lists : List (List ℕ) = c.args.lists.now in
    let rows = AreArcRows-read c.vertices.result m.arcs c.as_slice.result.now c.in_ok-rows.rows
    (c.as_slice.ensures ∙ c.arcs.ensures.arcs ∙ ap (λ g. g.arcs) c.graph-graph.ensures) c.in_ok-rows.ensures in
    shows_paths-off m.arcs m.sources m.targets lists c.args.set.now
    (c.if-not-are_from_sources.ensures m.arcs rows
    ∙ ap (λ (s : List ℕ). list_all (is_source_path m.arcs s) lists) (c.in_ok-sources.ensures.members ∙ c.sources.ensures))

pub returns-then-ne : goal.returns-then-ne
returns-then-ne c =
    let m = c.args.matroid.now in
    let lists : List (List ℕ) = c.args.lists.now in
    let ends : List ℕ = c.in_ok-ends.ends.items in
    let vertices : List ℕ = c.in_ok-vertices.vertices.items in
    let listed : vertices ≡ vertices_of m.targets c.args.set.now = c.in_ok-vertices.ensures
    ∙ ap (λ (t : List ℕ). vertices_of t c.as_slice-2.result.now) c.targets.ensures ∙ ap (vertices_of m.targets) c.as_slice-2.ensures.items in
    let other : bytes_eq ends vertices ≡ false = not-true (bytes_eq ends vertices) (sym c.if-ne.ensures) in
    shows_paths-elsewhere m.arcs m.sources m.targets lists c.args.set.now
    (ap (λ (es : List ℕ). bytes_eq es (vertices_of m.targets c.args.set.now)) (sym c.in_ok-ends.ensures) ∙ ap (bytes_eq ends) (sym listed) ∙ other)

pub returns : goal.returns
returns c =
    let m = c.args.matroid.now in
    let lists : List (List ℕ) = c.args.lists.now in
    let rows = AreArcRows-read c.vertices.result m.arcs c.as_slice.result.now c.in_ok-rows.rows
    (c.as_slice.ensures ∙ c.arcs.ensures.arcs ∙ ap (λ g. g.arcs) c.graph-graph.ensures) c.in_ok-rows.ensures in
    let on = c.if-not-are_from_sources.ensures m.arcs rows
    ∙ ap (λ (s : List ℕ). list_all (is_source_path m.arcs s) lists) (c.in_ok-sources.ensures.members ∙ c.sources.ensures) in
    let ends : List ℕ = c.in_ok-ends.ends.items in
    let vertices : List ℕ = c.in_ok-vertices.vertices.items in
    let listed : vertices ≡ vertices_of m.targets c.args.set.now = c.in_ok-vertices.ensures
    ∙ ap (λ (t : List ℕ). vertices_of t c.as_slice-2.result.now) c.targets.ensures ∙ ap (vertices_of m.targets) c.as_slice-2.ensures.items in
    let same : bytes_eq ends vertices ≡ true = not-false (bytes_eq ends vertices) (sym c.if-ne.ensures) in
    let ended : bytes_eq (map last_of lists) (vertices_of m.targets c.args.set.now) ≡ true
    = ap (λ (es : List ℕ). bytes_eq es (vertices_of m.targets c.args.set.now)) (sym c.in_ok-ends.ensures) ∙ ap (bytes_eq ends) (sym listed) ∙ same in
    IfOk-weaker c.are_different.result _ _
    (λ (d : Bool) (h : d ≡ are_distinct c.deref.result.now).
    h ∙ ap are_distinct (c.deref.ensures.value ∙ c.in_ok-all_vertices.ensures)
    ∙ shows_paths-by_vertices m.arcs m.sources m.targets lists c.args.set.now on ended)
    c.are_different.ensures
