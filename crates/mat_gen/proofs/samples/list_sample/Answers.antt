use Rattle.mat_gen.proofs.Common.{◌+◌, ◌/◌, arith}
use Rattle.mat_gen.proofs.Validity.{graph_drawn}
use Rattle.mat_gen.proofs.samples.list_sample.Goals as goal

pub two_graphic-requires-clause-first : goal.two_graphic-requires-clause-first
two_graphic-requires-clause-first c =
    graph_drawn c.args.seed c.args.count 5 0 (c.args.count / 4 + 2) c.in_ok-first.first c.requires.few (omega arith)
    c.in_ok-first.ensures

pub two_graphic-requires-clause-second : goal.two_graphic-requires-clause-second
two_graphic-requires-clause-second c =
    graph_drawn c.args.seed c.args.count 5 2 (c.args.count / 4 + 2) c.in_ok-second.second c.requires.few (omega arith)
    c.in_ok-second.ensures
