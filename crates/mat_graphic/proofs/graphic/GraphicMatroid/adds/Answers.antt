use Rattle.mat_graphic.proofs.Common.{◌∙◌, not, length, sym, ap, ends_of, is_graphic}
use Rattle.mat_laws.proofs.Rows.{row_of-adds}
use Rattle.mat_graphic.proofs.GraphicRuns.{enters_apart}
use Rattle.mat_graphic.proofs.graphic.GraphicMatroid.adds.Goals as goal

pub are_joined-requires-clause-order : goal.are_joined-requires-clause-order
are_joined-requires-clause-order c = c.requires.kept.ordered

pub are_joined-requires-clause-first : goal.are_joined-requires-clause-first
are_joined-requires-clause-first c = c.requires.kept.found _ (rw c.get-first.ensures (c.requires.sound.first c.args.x c.requires.below))

pub are_joined-requires-clause-second : goal.are_joined-requires-clause-second
are_joined-requires-clause-second c = c.requires.kept.found _ (rw c.get-first.ensures (c.requires.sound.second c.args.x c.requires.below))

pub returns : goal.returns
returns c =
    let edges = c.args.self.now.edges in
    let n = length edges in
    let ends = ends_of edges in
    let base = c.args._base.now in
    let joined = rw c.get-first.ensures at (c.are_joined.ensures ends base c.requires.kept.tree) in
    enters_apart ends base c.args.x n (not c.are_joined.result) c.requires.below c.requires.base (ap not joined)
    ∙ sym (row_of-adds (is_graphic n ends) base c.args.x)
