use Rattle.mat_solve.proofs.Common.{rooted_is_graph}
use Rattle.mat_solve.proofs.TreeSolutions.{disjoint_solution, seldom_solution}
use Rattle.mat_solve.proofs.trees.disjoint.Goals as goal

pub new-requires : goal.new-requires
new-requires c =
    let here = c.in-Rooted in
    rw c.in_ok-copy.ensures (rooted_is_graph here.vertices here.root here.arcs here.costs (rw here.is at c.requires.valid))

pub returns-in-All-clause-solution : goal.returns-in-All-clause-solution
returns-in-All-clause-solution c =
    let here = c.in-Rooted in
    rw (here.is, c.len-count.ensures) (disjoint_solution here.vertices here.root here.arcs here.costs (rw here.is at c.requires.valid) c.args.k
    c.in-All.trees c.requires.range.0 c.requires.range.1
    (rw (c.in_ok-graph.ensures, c.in_ok-copy.ensures, c.in-All.is) at c.in_ok-found.ensures.right))

pub returns-clause-solution : goal.returns-clause-solution
returns-clause-solution c =
    let here = c.in-Rooted in
    rw (here.is, c.len-count.ensures) (seldom_solution here.vertices here.root here.arcs here.costs (rw here.is at c.requires.valid) c.args.k
    c.in-Cut.set c.requires.range.0 c.requires.range.1
    (rw (c.in_ok-graph.ensures, c.in_ok-copy.ensures, c.in-Cut.is) at c.in_ok-found.ensures.right))
