use Rattle.mat_witness.proofs.Common.{ap, ◌∙◌, intersection, vertices_of}
use Rattle.mat_witness.proofs.OrderedPaths.{ends_inside, is_member-ends}
use Rattle.mat_witness.proofs.ReachedBeside.{AreClosingSets-reached}
use Rattle.mat_witness.proofs.parts.gammoids.closing.closing_pair.Goals as goal

pub linked-requires-clause-targets : goal.linked-requires-clause-targets
linked-requires-clause-targets c =
    let listed = c.in_ok-vertices.ensures ∙ ap (vertices_of c.args.targets.now) c.as_slice.ensures.items in
    ends_inside c.requires.sound c.requires.set (c.deref.ensures.value ∙ listed) c.in_ok-ends.ensures.members

pub returns : goal.returns
returns c =
    let listed = c.in_ok-vertices.ensures ∙ ap (vertices_of c.args.targets.now) c.as_slice.ensures.items in
    let sets = AreClosingSets-reached c.requires.sound c.requires.set
    (is_member-ends _ _ (c.deref.ensures.value ∙ listed) c.in_ok-ends.ensures.members) c.in_ok-separator.ensures
    (rw (c.vertices.ensures.count, c.as_slice-2.ensures ∙ c.arcs.ensures.arcs) at c.in_ok-rows.ensures)
    (rw c.vertices-2.ensures.count at c.in_ok-reached.ensures) c.in_ok-beside.ensures.members
    (c.in_ok-closing.ensures.members ∙ ap (intersection c.in_ok-reached.reached) c.in_ok-to_bits.ensures.members) in
    record { sets = (sets.beside_set, sets.closing_set); closed = sets.closed; few = sets.few }
