-- Forms of problems and of answers that are told alike.
use Rattle.std.specs.Prelude.{Bool, true, false}
use Rattle.mat_problem.specs.Instances.{Instance, pair, list, coloured, table}
use Rattle.mat_cert.specs.Certificates.{Certificate, union_of}

-- whether a problem states a graph or a table, and no matroids
abbrev pub is_drawn : Instance → Bool
is_drawn (pair weights first second) = false
is_drawn (list weights matroids) = false
is_drawn instance = true

-- whether it states a graph with colours, or a table
abbrev pub is_weighted : Instance → Bool
is_weighted (coloured vertices colours edges colour_of weights) = true
is_weighted (table rows columns cells weights) = true
is_weighted instance = false

-- whether an answer is one of a union
abbrev pub is_union : Certificate → Bool
is_union (union_of n weight parts levels) = true
is_union answer = false
