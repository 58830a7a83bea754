use Rattle.mat_gf2.proofs.Common.{◌≡◌, ◌∙◌, true, false, refl, ap, get_or, Exchange, TaggedColumn, reduced_tagged_by}
use Rattle.mat_gf2.proofs.Dimensions.{independent-few}
use Rattle.mat_gf2.proofs.Circuits.{row_of_marked, row_of_addable}
use Rattle.mat_gf2.proofs.gf2.Gf2Matroid.row.Goals as goal

pub marked_members-requires : goal.marked_members-requires
marked_members-requires c = independent-few c.args.self.now.dim c.args.self.now.columns c.args.base.now c.requires.sound c.requires.base

pub returns-then-left-eq0-clause-row : goal.returns-then-left-eq0-clause-row
returns-then-left-eq0-clause-row c =
    let entry = c.index.result.now in
    let columns = c.args.self.now.columns in
    let read : entry ≡ get_or columns c.args.x entry = c.index.ensures ∙ ap (λ m. get_or m.columns c.args.x entry) c.self.view_is in
    let column : TaggedColumn = record { column = entry; tag = 0 } in
    let row : Exchange = record { addable = false; with = c.in_ok-with.with } in
    row_of_marked columns c.args.base.now c.args.x entry c.args.kept.now.rows.items c.reduce_tagged-left.result row
    c.requires.base c.requires.below c.requires.outside c.requires.kept.tagged read
    (c.reduce_tagged-left.ensures ∙ ap (λ basis. reduced_tagged_by basis column) c.deref.ensures.value)
    c.if-left-eq0.true refl c.in_ok-with.ensures.members

pub returns-clause-row : goal.returns-clause-row
returns-clause-row c =
    let entry = c.index.result.now in
    let columns = c.args.self.now.columns in
    let read : entry ≡ get_or columns c.args.x entry = c.index.ensures ∙ ap (λ m. get_or m.columns c.args.x entry) c.self.view_is in
    let column : TaggedColumn = record { column = entry; tag = 0 } in
    let row : Exchange = record { addable = true; with = c.in_ok-with-2.with } in
    row_of_addable columns c.args.base.now c.args.x entry c.args.kept.now.rows.items c.reduce_tagged-left.result row
    c.requires.base c.requires.below c.requires.outside c.requires.kept.tagged read
    (c.reduce_tagged-left.ensures ∙ ap (λ basis. reduced_tagged_by basis column) c.deref.ensures.value)
    c.if-left-eq0.false refl c.in_ok-with-2.ensures.equal
