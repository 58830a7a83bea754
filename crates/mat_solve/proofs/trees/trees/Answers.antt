use Rattle.mat_solve.proofs.Common.{IsRightTreesAnswer, graph_is_graph}
use Rattle.mat_packing.specs.declared.trees.Trees.TheVariants.{Trees, Partition}
use Rattle.mat_solve.proofs.GraphSolutions.{trees_solution, partition_solution}
use Rattle.mat_solve.proofs.trees.trees.Goals as goal

pub pack_trees-requires-clause-graph : goal.pack_trees-requires-clause-graph
pack_trees-requires-clause-graph c = graph_is_graph c.in-Graph.vertices c.in-Graph.edges (rw c.in-Graph.is at c.requires.valid)

pub returns-in-Trees-clause-solution : goal.returns-in-Trees-clause-solution
returns-in-Trees-clause-solution c =
    let here = c.in-Graph in
    let found : IsRightTreesAnswer here.vertices here.edges c.args.k (Trees c.in-Trees.trees) = rw c.in-Trees.is at c.in_ok-found.ensures.right in
    rw (here.is, c.len-count.ensures)
    (trees_solution here.vertices here.edges (rw here.is at c.requires.valid) c.args.k c.in-Trees.trees c.requires.range.0 c.requires.range.1
    found.1 found.0)

pub returns-in-Partition-clause-solution : goal.returns-in-Partition-clause-solution
returns-in-Partition-clause-solution c =
    let here = c.in-Graph in
    let found : IsRightTreesAnswer here.vertices here.edges c.args.k (Partition c.in-Partition.classes) =
    rw c.in-Partition.is at c.in_ok-found.ensures.right in
    rw (here.is, c.len-count.ensures)
    (partition_solution here.vertices here.edges (rw here.is at c.requires.valid) c.args.k c.in-Partition.classes c.as_slice-classes.ensures.rise
    found c.requires.range.0 c.requires.range.1)
