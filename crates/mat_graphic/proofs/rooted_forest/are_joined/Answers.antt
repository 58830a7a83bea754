use Rattle.mat_graphic.proofs.Common.{◌∙◌, eqb, ap, least_merged}
use Rattle.mat_graphic.proofs.Roots.{component_at, roots-differ}
use Rattle.mat_graphic.proofs.rooted_forest.are_joined.Goals as goal

pub returns : goal.returns
returns c = λ ends X t.
    let order = c.args.forest.now.order.items in
    let one = c.root_above.ensures in
    let two = c.root_above-2.ensures in
    let at_first = one.same ends X t ∙ ap (least_merged ends X) c.place_of.ensures.here in
    let at_second = two.same ends X t ∙ ap (least_merged ends X) c.place_of-2.ensures.here in
    roots-differ ends X order _ _ t c.root_above.result c.root_above-2.result one.inside two.inside one.root two.root
    ∙ ap (λ k. eqb k (component_at ends X order c.root_above-2.result)) at_first ∙ ap (eqb (least_merged ends X c.args.v)) at_second
