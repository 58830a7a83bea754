use Rattle.mat_graphic.proofs.Common.{◌∙◌, get_or, subst, sym, arith, ends_of, IsLeastReached, least_merged, IsParentTable}
use Rattle.mat_sets.proofs.Steps.{written_back}
use Rattle.mat_graphic.proofs.ComponentCounts.{least_merged-is}
use Rattle.mat_graphic.proofs.graphic.Graphic.components.Goals as goal

pub returns-clause-least : goal.returns-clause-least
returns-clause-least c = λ v small.
    let ends = ends_of c.args.self.now.edges in
    let least = least_merged ends c.args.edges.now in
    let len = c.in_ok-parent.parent.len in
    let united : IsParentTable least c.unite_all.new.parent = subst (λ edges. IsParentTable
    (least_merged (ends_of edges) c.args.edges.now) c.unite_all.new.parent) c.as_slice.ensures c.unite_all.ensures.united in
    let back = written_back len c.unite_all.new.parent c.in_ok-parent.parent.items (c.unite_all.auto.parent ∙ c.deref_mut.ensures.len) in
    let lent = c.deref_mut-2.ensures.value ∙ back in
    let settled = c.settle.ensures least (subst (IsParentTable least) (sym lent) united) v
    (omega (arith, c.settle.auto.parent, c.deref_mut-2.ensures.len, c.in_ok-parent.ensures.long, c.in_ok-parent.parent.ok)) in
    subst (λ t. IsLeastReached ends c.args.edges.now v (get_or t v 0))
    (sym (written_back len c.settle.new.parent _ (c.settle.auto.parent ∙ c.deref_mut-2.ensures.len)))
    (subst (IsLeastReached ends c.args.edges.now v) (sym settled) (least_merged-is ends c.args.edges.now v c.unite_all.ensures.rises))
