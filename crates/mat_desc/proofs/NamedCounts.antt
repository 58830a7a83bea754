-- A problem in range has few elements and few vertices, so there are numbered names for all of them.
use Rattle.mat_desc.proofs.Common.{◌<◌, ◌^◌, arith, IsValid, Instance, pair, list, graph, rooted, coloured, table, count_of_elements, count_of_vertices}

pub few_elements : (instance : Instance) → IsValid instance → count_of_elements instance < 2 ^ 32
few_elements (pair weights first second) valid = omega (arith, valid.0.0)
few_elements (list weights matroids) valid = omega (arith, valid.0.0)
few_elements (graph vertices edges) valid = omega (arith, valid.2.0)
few_elements (rooted vertices root arcs costs) valid = omega (arith, valid.3.0)
few_elements (coloured vertices colours edges colour_of weights) valid = omega (arith, valid.3.0)
few_elements (table rows columns cells weights) valid = omega (arith, valid.2.0)

pub few_vertices : (instance : Instance) → IsValid instance → count_of_vertices instance < 2 ^ 32
few_vertices (pair weights first second) valid = omega arith
few_vertices (list weights matroids) valid = omega arith
few_vertices (graph vertices edges) valid = omega (arith, valid.1)
few_vertices (rooted vertices root arcs costs) valid = omega (arith, valid.1)
few_vertices (coloured vertices colours edges colour_of weights) valid = omega (arith, valid.1)
few_vertices (table rows columns cells weights) valid = omega arith
