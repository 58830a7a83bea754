use Rattle.mat_cuts.proofs.Common.{subst, Tree, unentered_has_none}
use Rattle.mat_cuts.specs.Pricing.{IsRightlyPriced}
use Rattle.mat_cuts.proofs.Bounds.{right_in_range}
use Rattle.mat_cuts.proofs.cheapest_tree.cheapest.Goals as goal

pub returns-in-Tree-clause-range : goal.returns-in-Tree-clause-range
returns-in-Tree-clause-range c =
    let priced = subst (IsRightlyPriced c.args.vertices c.as_slice.result.now c.args.costs.now c.args.root) c.in-Tree.is c.in_ok-tree.ensures in
    right_in_range c.args.vertices c.args.arcs.now c.args.costs.now c.args.root (Tree c.in-Tree.tree c.in-Tree.cuts)
    c.requires.few c.requires.range c.requires.costs (rw c.as_slice.ensures at priced.right)

pub returns-clause-reached : goal.returns-clause-reached
returns-clause-reached c = λ tree spans.
    let unentered = subst (IsRightlyPriced c.args.vertices c.as_slice.result.now c.args.costs.now c.args.root) c.in-Unreached.is c.in_ok-tree.ensures in
    unentered_has_none c.args.vertices c.args.arcs.now c.args.root c.in-Unreached.set tree (rw c.as_slice.ensures at unentered) spans
