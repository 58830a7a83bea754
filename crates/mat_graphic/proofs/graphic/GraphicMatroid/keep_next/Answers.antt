-- The new edge is one of the graph, so its ends are vertices that the forest has found; the forest with it is one of the next set.
use Rattle.mat_graphic.proofs.Common.{◌||◌, eqb, length, refl, sym, ap, ◌∙◌, eq-eqb, or_left, ends_of, is_member, AllBelow-member}
use Rattle.mat_graphic.proofs.graphic.GraphicMatroid.keep_next.Goals as goal

pub get-first-requires : goal.get-first-requires
get-first-requires c =
    let edge = c.in-Some.edge in
    let next = c.args.next.now in
    AllBelow-member (length c.args.self.now.edges) next edge (c.lawful.ensures.sets next c.requires.next).below
    (ap (is_member edge) (sym c.as_slice-2.ensures.items) ∙ c.in-Some.ensures edge
    ∙ or_left (eqb edge edge) (is_member edge c.as_slice.result.now) (eq-eqb edge edge refl))

pub with_edge-requires-clause-first : goal.with_edge-requires-clause-first
with_edge-requires-clause-first c =
    let edge = c.in-Some.edge in
    let next = c.args.next.now in
    let small = AllBelow-member (length c.args.self.now.edges) next edge (c.lawful.ensures.sets next c.requires.next).below
    (ap (is_member edge) (sym c.as_slice-2.ensures.items) ∙ c.in-Some.ensures edge
    ∙ or_left (eqb edge edge) (is_member edge c.as_slice.result.now) (eq-eqb edge edge refl)) in
    c.requires.kept.found _ (rw c.get-first.ensures (c.requires.sound.first edge small))

pub with_edge-requires-clause-second : goal.with_edge-requires-clause-second
with_edge-requires-clause-second c =
    let edge = c.in-Some.edge in
    let next = c.args.next.now in
    let small = AllBelow-member (length c.args.self.now.edges) next edge (c.lawful.ensures.sets next c.requires.next).below
    (ap (is_member edge) (sym c.as_slice-2.ensures.items) ∙ c.in-Some.ensures edge
    ∙ or_left (eqb edge edge) (is_member edge c.as_slice.result.now) (eq-eqb edge edge refl)) in
    c.requires.kept.found _ (rw c.get-first.ensures (c.requires.sound.second edge small))

pub returns-in-Some-2 : goal.returns-in-Some-2
returns-in-Some-2 c =
    let edge = c.in-Some.edge in
    (rw c.in-Some-2.is at c.in_ok-forest.ensures) (ends_of c.args.self.now.edges) c.args.base.now c.args.next.now (record {
      members = λ z. ap (is_member z) (sym c.as_slice-2.ensures.items) ∙ c.in-Some.ensures z
          ∙ ap (λ s. eqb z edge || is_member z s) c.as_slice.ensures.items;
      ends_are = sym c.get-first.ensures;
    }) c.requires.kept
