-- A column that fails a parity check is no sum of columns of the set; one that passes all is such a sum if nothing is left of it.
use Rattle.mat_gf2.proofs.Common.{◌≡◌, ◌∙◌, true, false, not, inl, inr, refl, sym, ap, get_or, cases_eq, eq-eqb, ne_eqb, Exchange, TaggedColumn, inner_product_is_one, marked, reduced_tagged_by}
use Rattle.std.specs.List.{list_any}
use Rattle.mat_gf2.proofs.Circuits.{row_of_marked, row_of_addable}
use Rattle.mat_gf2.proofs.ParityChecks.{left_of_failing}
use Rattle.mat_gf2.proofs.gf2.Gf2Matroid.adds.Goals as goal

pub returns-then-fails_check : goal.returns-then-fails_check
returns-then-fails_check c =
    let entry = c.index.result.now in
    let columns = c.args.self.now.columns in
    let base = c.args._base.now in
    let rows = c.args.kept.now.rows.items in
    let checks = c.args.kept.now.checks.items in
    let read : entry ≡ get_or columns c.args.x entry = c.index.ensures ∙ ap (λ m. get_or m.columns c.args.x entry) c.self.view_is in
    let column : TaggedColumn = record { column = entry; tag = 0 } in
    let free : Exchange = record { addable = true; with = base } in
    let fails : list_any (λ check. inner_product_is_one check entry) checks ≡ true =
    ap (list_any (λ check. inner_product_is_one check entry)) (sym c.deref.ensures.value) ∙ sym c.fails_check.ensures ∙ c.if-fails_check.true in
    ap (λ (r : Exchange). r.addable)
    (row_of_addable columns base c.args.x entry rows (reduced_tagged_by rows column) free
    c.requires.base c.requires.below c.requires.outside c.requires.kept.tagged read refl
    (left_of_failing rows checks column c.requires.kept.checks fails) refl refl)

pub returns : goal.returns
returns c =
    let entry = c.index.result.now in
    let columns = c.args.self.now.columns in
    let base = c.args._base.now in
    let left = c.reduce_tagged-left.result in
    let read : entry ≡ get_or columns c.args.x entry = c.index.ensures ∙ ap (λ m. get_or m.columns c.args.x entry) c.self.view_is in
    let column : TaggedColumn = record { column = entry; tag = 0 } in
    let reduced = c.reduce_tagged-left.ensures ∙ ap (λ basis. reduced_tagged_by basis column) c.deref-2.ensures.value in
    let dependent : Exchange = record { addable = false; with = marked left.tag base } in
    let free : Exchange = record { addable = true; with = base } in
    elim (cases_eq left.column 0) [
      | inl zero ↦ ap not (eq-eqb _ _ zero) ∙ ap (λ (r : Exchange). r.addable)
          (row_of_marked columns base c.args.x entry c.args.kept.now.rows.items left dependent
          c.requires.base c.requires.below c.requires.outside c.requires.kept.tagged read reduced zero refl refl)
      | inr other ↦ ap not (ne_eqb _ _ other) ∙ ap (λ (r : Exchange). r.addable)
          (row_of_addable columns base c.args.x entry c.args.kept.now.rows.items left free
          c.requires.base c.requires.below c.requires.outside c.requires.kept.tagged read reduced other refl refl)
    ]
