-- Problems whose matroids are sound.
use Rattle.std.specs.Prelude.{◌≡◌, length, All}
use Rattle.mat_any.specs.Trees.{element_count, IsSound}
use Rattle.mat_problem.specs.Instances.{Instance, pair, list, graph, rooted, coloured, table}

-- each matroid is sound, and has as many elements as there are weights
abbrev pub IsSoundInstance : Instance → Type 0
IsSoundInstance (pair weights first second) = IsSound first × (element_count first ≡ length weights)
    × IsSound second × (element_count second ≡ length weights)
IsSoundInstance (list weights matroids) = All (λ tree. IsSound tree × (element_count tree ≡ length weights)) matroids
IsSoundInstance (graph vertices edges) = Unit {0}
IsSoundInstance (rooted vertices root arcs costs) = Unit {0}
IsSoundInstance (coloured vertices colours edges colour_of weights) = Unit {0}
IsSoundInstance (table rows columns cells weights) = Unit {0}
