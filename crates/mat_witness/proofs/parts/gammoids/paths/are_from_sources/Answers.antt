use Rattle.mat_witness.proofs.Common.{sym, ap, ◌∙◌, arith, take_all}
use Rattle.std.specs.List.{list_all}
use Rattle.mat_witness.proofs.PathParts.{is_source_path}
use Rattle.mat_witness.proofs.parts.gammoids.paths.are_from_sources.Goals as goal

pub returns : goal.returns
returns c = λ arcs r.
    sym (ap (list_all (is_source_path arcs c.args.sources.now))
    (sym (take_all c.loop-path.path-index c.args.lists.now (omega (arith, c.loop-path-test.false))))
    ∙ c.loop-path.invariant arcs r)
