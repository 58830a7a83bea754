use Rattle.mat_solve.proofs.Common.{IsUnreachedSet, rooted_is_graph}
use Rattle.mat_solve.proofs.TreeSolutions.{arbor_few, arbor_solution, unreached_solution}
use Rattle.mat_solve.proofs.trees.arborescence.Goals as goal

pub least_arborescence-requires-clause-graph : goal.least_arborescence-requires-clause-graph
least_arborescence-requires-clause-graph c =
    let here = c.in-Rooted in
    rooted_is_graph here.vertices here.root here.arcs here.costs (rw here.is at c.requires.valid)

pub weigh-cost-requires-clause-inside : goal.weigh-cost-requires-clause-inside
weigh-cost-requires-clause-inside c =
    let here = c.in-Rooted in
    rw c.as_slice-in-Tree.ensures (arbor_few here.vertices here.root here.arcs here.costs (rw here.is at c.requires.valid) c.in-Tree.arcs
    c.in-Tree.first c.in-Tree.second (rw (c.as_slice.ensures, c.in-Tree.is) at c.in_ok-found.ensures.right)).0

pub weigh-cost-requires-clause-few : goal.weigh-cost-requires-clause-few
weigh-cost-requires-clause-few c =
    let here = c.in-Rooted in
    (arbor_few here.vertices here.root here.arcs here.costs (rw here.is at c.requires.valid) c.in-Tree.arcs c.in-Tree.first c.in-Tree.second
    (rw (c.as_slice.ensures, c.in-Tree.is) at c.in_ok-found.ensures.right)).1

pub returns-in-Tree-clause-solution : goal.returns-in-Tree-clause-solution
returns-in-Tree-clause-solution c =
    let here = c.in-Rooted in
    rw (here.is, c.len-count.ensures, c.weigh-cost.ensures.sum, c.as_slice-in-Tree.ensures)
    (arbor_solution here.vertices here.root here.arcs here.costs (rw here.is at c.requires.valid) c.in-Tree.arcs c.in-Tree.first c.in-Tree.second
    (rw (c.as_slice.ensures, c.in-Tree.is) at c.in_ok-found.ensures.right))

pub returns-in-Unreached-clause-solution : goal.returns-in-Unreached-clause-solution
returns-in-Unreached-clause-solution c =
    let here = c.in-Rooted in
    let found : IsUnreachedSet here.vertices here.arcs here.root c.in-Unreached.set =
    rw (c.as_slice.ensures, c.in-Unreached.is) at c.in_ok-found.ensures.right in
    rw (here.is, c.len-count.ensures)
    (unreached_solution here.vertices here.root here.arcs here.costs (rw here.is at c.requires.valid) c.in-Unreached.set found.unentered)
