-- What contracts see of problems.
use Rattle.std.specs.Prelude.{map}
use Rattle.mat_problem.specs.declared.problem.Problem.{Problem}
use Rattle.mat_problem.specs.declared.problem.Problem.TheVariants as problems
use Rattle.mat_any.specs.Views.{tree_of}
use Rattle.mat_problem.specs.Instances.{Instance, pair, list, graph, rooted, coloured, table}

-- the problem as plain data
abbrev pub instance_of : Problem → Instance
instance_of (problems.Pair weights first second) = pair weights (tree_of first) (tree_of second)
instance_of (problems.List weights matroids) = list weights (map tree_of matroids.items)
instance_of (problems.Graph vertices edges) = graph vertices edges
instance_of (problems.Rooted vertices root arcs costs) = rooted vertices root arcs costs
instance_of (problems.Coloured vertices colours edges colour_of weights) = coloured vertices colours edges colour_of.items weights
instance_of (problems.Table rows columns cells weights) = table rows columns cells weights
