use Rattle.mat_desc.proofs.Common.{◌<◌, ◌^◌, arith, codes, lines_left, names_of}
use Rattle.mat_desc.proofs.NotationLaws.{names_line_found, vertex_names_found}
use Rattle.mat_desc.proofs.read.notation.read_notation.Goals as goal

pub returns-in_ok-vertices-in-Two-clause-elements : goal.returns-in_ok-vertices-in-Two-clause-elements
returns-in_ok-vertices-in-Two-clause-elements c =
    let few : c.args.elements < 2 ^ 32 = omega (arith, c.ranges.elements.fits) in
    let read = names_line_found (codes "elements") c.args.elements few (lines_left c.args.lines) (names_of c.in_ok-elements-in-Two.elements)
    (lines_left c.in_ok-elements-in-Two.lines) c.in_ok-elements-in-Two.ensures in
    (read.lawful, read.count)

pub returns-in_ok-vertices-in-Two-clause-vertices : goal.returns-in_ok-vertices-in-Two-clause-vertices
returns-in_ok-vertices-in-Two-clause-vertices c =
    let few : c.args.vertices < 2 ^ 32 = omega (arith, c.ranges.vertices.fits) in
    let read = vertex_names_found c.args.vertices few (lines_left c.in_ok-elements-in-Two.lines) (names_of c.in_ok-vertices-in-Two.vertices)
    (lines_left c.in_ok-vertices-in-Two.lines) c.in_ok-vertices-in-Two.ensures in
    (read.lawful, read.count)
