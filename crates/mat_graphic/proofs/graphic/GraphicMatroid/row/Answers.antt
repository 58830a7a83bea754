use Rattle.mat_graphic.proofs.Common.{false, true, length, refl, sym, ends_of}
use Rattle.mat_graphic.proofs.EdgeRows.{row-apart, row-trail}
use Rattle.mat_graphic.proofs.graphic.GraphicMatroid.row.Goals as goal

pub trail-requires-clause-order : goal.trail-requires-clause-order
trail-requires-clause-order c = c.requires.kept.ordered

pub trail-requires-clause-from : goal.trail-requires-clause-from
trail-requires-clause-from c = c.requires.kept.found _ (rw c.get-first.ensures (c.requires.sound.second c.args.x c.requires.below))

pub trail-requires-clause-to : goal.trail-requires-clause-to
trail-requires-clause-to c = c.requires.kept.found _ (rw c.get-first.ensures (c.requires.sound.first c.args.x c.requires.below))

pub returns-in-Some-clause-row : goal.returns-in-Some-clause-row
returns-in-Some-clause-row c =
    let edges = c.args.self.now.edges in
    let told = rw (c.in-Some.is, c.get-first.ensures) at (c.in_ok-with.ensures.trail (ends_of edges) c.args.base.now c.requires.kept.tree) in
    let rises = rw c.in-Some.is at c.in_ok-with.ensures.rises in
    row-trail (length edges) (ends_of edges) c.args.base.now c.args.x
    (record { addable = false; with = c.in-Some.with }) c.requires.below c.requires.base c.requires.outside rises told refl

pub returns-in_ok-copy-in-None-clause-row : goal.returns-in_ok-copy-in-None-clause-row
returns-in_ok-copy-in-None-clause-row c =
    let edges = c.args.self.now.edges in
    let told = rw (c.in-None.is, c.get-first.ensures) at (c.in_ok-with.ensures.trail (ends_of edges) c.args.base.now c.requires.kept.tree) in
    row-apart (length edges) (ends_of edges) c.args.base.now c.args.x
    (record { addable = true; with = c.in_ok-copy-in-None.field-0 }) c.requires.below c.requires.base c.requires.outside
    (λ same. told (sym same)) refl c.in_ok-copy-in-None.ensures.equal
