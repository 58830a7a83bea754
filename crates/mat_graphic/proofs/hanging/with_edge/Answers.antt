use Rattle.mat_graphic.proofs.Common.{[], ap, subst, sym, ◌∙◌, AreFlags, IsTurned, least_merged}
use Rattle.mat_graphic.proofs.HungTrees.{hung_is_rooted, roots_found}
use Rattle.mat_graphic.proofs.hanging.with_edge.Goals as goal

pub copy_outside-requires-clause-begun : goal.copy_outside-requires-clause-begun
copy_outside-requires-clause-begun c = (c.in_ok-new.ensures.exploring [] [] []).ordered

pub visit_rest-requires-clause-roots : goal.visit_rest-requires-clause-roots
visit_rest-requires-clause-roots c =
    let forest = c.args.forest.now in
    let root = c.root_above-root.result in
    let inside = c.deref.result.now in
    let copied = c.copy_outside.new.new in
    let turned = c.turn_way.new.new in
    let flags = subst (AreFlags forest.before.items root) (sym c.deref.ensures.value) c.in_ok-inside.ensures in
    let way = subst (λ b. IsTurned forest root c.args.edge c.args.first c.args.second copied b turned) c.if-not-branch.false c.in_ok-turn_way.ensures in
    roots_found forest copied turned root c.args.edge c.args.first c.args.second inside c.requires.order flags c.in_ok-copy_outside.ensures way

pub returns : goal.returns
returns c = λ ends X Y n k.
    let forest = c.args.forest.now in
    let root = c.root_above-root.result in
    let inside = c.deref.result.now in
    let copied = c.copy_outside.new.new in
    let turned = c.turn_way.new.new in
    let flags = subst (AreFlags forest.before.items root) (sym c.deref.ensures.value) c.in_ok-inside.ensures in
    let way = subst (λ b. IsTurned forest root c.args.edge c.args.first c.args.second copied b turned) c.if-not-branch.false c.in_ok-turn_way.ensures in
    let same = c.root_above-root.ensures.same ends X k.tree ∙ ap (least_merged ends X) c.place_of.ensures.here in
    hung_is_rooted c.args.vertices forest copied turned c.visit_rest.new.new root c.args.edge c.args.first c.args.second inside c.requires.order flags
    c.root_above-root.ensures.inside c.root_above-root.ensures.root c.in_ok-copy_outside.ensures way c.in_ok-visit_rest.ensures ends X Y same n k
