use Rattle.mat_witness.proofs.Common.{ap, ◌∙◌, IfOk-weaker, vertices_of}
use Rattle.mat_witness.proofs.OrderedPaths.{ends_inside, independent_set, linked_to}
use Rattle.mat_witness.proofs.parts.gammoids.paths.linking_paths.Goals as goal

pub element_vertices-requires : goal.element_vertices-requires
element_vertices-requires c = rw c.as_slice.ensures.items (independent_set c.requires.sound _ c.requires.set).below

pub linked-requires-clause-targets : goal.linked-requires-clause-targets
linked-requires-clause-targets c =
    let listed = c.in_ok-vertices.ensures ∙ ap (vertices_of c.args.targets.now) c.as_slice.ensures.items in
    ends_inside c.requires.sound (independent_set c.requires.sound _ c.requires.set) (c.deref.ensures.value ∙ listed) c.in_ok-ends.ensures.members

pub in_order-requires : goal.in_order-requires
in_order-requires c =
    let listed = c.in_ok-vertices.ensures ∙ ap (vertices_of c.args.targets.now) c.as_slice.ensures.items in
    let linked = linked_to c.requires.sound _ c.requires.set (c.deref.ensures.value ∙ listed) c.in_ok-ends.ensures.members
    c.in_ok-ends.ensures.set c.in_ok-linking.ensures in
    record {
      some = rw c.deref-2.ensures.value linked.some;
      below = rw (c.deref-2.ensures.value, c.vertices.ensures.count) linked.below;
      distinct = rw c.deref-2.ensures.value linked.distinct;
      ends = rw (c.deref-2.ensures.value, c.deref-3.ensures.value ∙ listed) linked.ended;
    }

pub returns : goal.returns
returns c =
    let listed = c.in_ok-vertices.ensures ∙ ap (vertices_of c.args.targets.now) c.as_slice.ensures.items in
    let linked = linked_to c.requires.sound _ c.requires.set (c.deref.ensures.value ∙ listed) c.in_ok-ends.ensures.members
    c.in_ok-ends.ensures.set c.in_ok-linking.ensures in
    let ordered = rw (c.deref-2.ensures.value, c.deref-3.ensures.value ∙ listed) at c.in_order.ensures in
    record {
      part = IfOk-weaker c.in_order.result _ _ (λ lists h. rw h (linked.count, linked.ranged)) ordered;
      shows = IfOk-weaker c.in_order.result _ _ (λ lists h. rw h linked.shows) ordered;
    }
