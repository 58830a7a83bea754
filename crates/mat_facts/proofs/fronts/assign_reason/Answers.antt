use Rattle.mat_facts.proofs.Common.{◌∙◌, ap, length, refl, subst, sym, row_at, is_once, ladder_facts}
use Rattle.mat_sets.specs.Sets.{AllBelow}
use Rattle.mat_count.specs.Labels.{one_each}
use Rattle.mat_count.specs.Partitions.{CappedClasses}
use Rattle.mat_count.proofs.LabelledMatroids.{labels_read, test_of}
use Rattle.mat_facts.specs.Views.{is_told}
use Rattle.mat_facts.proofs.RangedAnswers.{all_share, few_rungs}
use Rattle.mat_facts.proofs.fronts.assign_reason.Goals as goal

pub ladder_reason-requires-clause-below : goal.ladder_reason-requires-clause-below
ladder_reason-requires-clause-below c κs =
    let by_column = c.in_ok-by_column.ensures.value
    ∙ labels_read (λ p. p.1) c.args.cells.now c.deref-2.result.now c.args.columns one_each refl (c.deref-2.ensures.value ∙ c.in_ok-column_of.ensures) in
    subst (λ n. AllBelow n c.args.cut.now) (sym (ap (λ (m : CappedClasses). m.count) by_column)) c.requires.ranged.1.below

pub ladder_reason-requires-clause-small : goal.ladder_reason-requires-clause-small
ladder_reason-requires-clause-small c κs = few_rungs (length c.args.cells.now) c.args.rungs.now c.requires.ranged.0

pub ladder_reason-requires-clause-shares : goal.ladder_reason-requires-clause-shares
ladder_reason-requires-clause-shares c κs = all_share (length c.args.cells.now) c.args.rungs.now c.requires.ranged.0

pub returns : goal.returns
returns c =
    let cells = c.args.cells.now in
    let told = is_told c.args.told in
    let rungs = c.args.rungs.now in
    let cut = c.args.cut.now in
    let by_row = c.in_ok-by_row.ensures.value
    ∙ labels_read (λ p. p.0) cells c.deref.result.now c.args.rows one_each refl (c.deref.ensures.value ∙ c.in_ok-row_of.ensures) in
    let by_column = c.in_ok-by_column.ensures.value
    ∙ labels_read (λ p. p.1) cells c.deref-2.result.now c.args.columns one_each refl (c.deref-2.ensures.value ∙ c.in_ok-column_of.ensures) in
    c.in_ok-facts.ensures
    ∙ ap (λ (m : CappedClasses). ladder_facts told m.count (test_of m) (test_of c.in_ok-by_column.by_column) rungs cut) by_row
    ∙ ap (λ (m : CappedClasses). ladder_facts told (length cells) (is_once (length cells) c.args.rows (row_at cells)) (test_of m) rungs cut) by_column
