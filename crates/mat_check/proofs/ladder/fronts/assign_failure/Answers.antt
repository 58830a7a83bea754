use Rattle.mat_check.proofs.Common.{◌∙◌, ap, length, refl, subst, sym, IfOk-weaker, CappedClasses, column_at, row_at, is_once, IsRangedLadder, first_failure, labels_read, test_of}
use Rattle.mat_count.specs.Labels.{one_each}
use Rattle.mat_check.proofs.SameLadders.{same_ladder}
use Rattle.mat_check.proofs.ladder.fronts.assign_failure.Goals as goal

pub owned_ladder_failure-requires-clause-first_lengths : goal.owned_ladder_failure-requires-clause-first_lengths
owned_ladder_failure-requires-clause-first_lengths g c =
    let by_row = c.in_ok-one_for_each_label.ensures.value
    ∙ labels_read (λ p. p.0) c.args.cells.now c.deref.result.now c.args.rows one_each refl (c.deref.ensures.value ∙ c.in_ok-row_of.ensures) in
    c.requires.lengths ∙ sym (ap (λ (m : CappedClasses). m.count) by_row)

pub owned_ladder_failure-requires-clause-second_lengths : goal.owned_ladder_failure-requires-clause-second_lengths
owned_ladder_failure-requires-clause-second_lengths g c =
    let by_column = c.in_ok-one_for_each_label-2.ensures.value
    ∙ labels_read (λ p. p.1) c.args.cells.now c.deref-2.result.now c.args.columns one_each refl (c.deref-2.ensures.value ∙ c.in_ok-column_of.ensures) in
    c.requires.lengths ∙ sym (ap (λ (m : CappedClasses). m.count) by_column)

pub owned_ladder_failure-requires-clause-ranged : goal.owned_ladder_failure-requires-clause-ranged
owned_ladder_failure-requires-clause-ranged g c =
    subst (λ n. IsRangedLadder n c.args.rungs.now c.args.cut.now) (sym c.requires.lengths) c.requires.ranged

pub returns : goal.returns
returns g c =
    let cells = c.args.cells.now in
    let by_row = c.in_ok-one_for_each_label.ensures.value
    ∙ labels_read (λ p. p.0) cells c.deref.result.now c.args.rows one_each refl (c.deref.ensures.value ∙ c.in_ok-row_of.ensures) in
    let by_column = c.in_ok-one_for_each_label-2.ensures.value
    ∙ labels_read (λ p. p.1) cells c.deref-2.result.now c.args.columns one_each refl (c.deref-2.ensures.value ∙ c.in_ok-column_of.ensures) in
    let same = same_ladder (length c.args.weights.now) (length cells) (test_of c.in_ok-one_for_each_label.field-0) (test_of c.in_ok-one_for_each_label-2.field-0)
    (is_once (length cells) c.args.rows (row_at cells)) (is_once (length cells) c.args.columns (column_at cells))
    c.args.weights.now c.args.rungs.now c.args.cut.now c.requires.lengths (ap test_of by_row) (ap test_of by_column) in
    IfOk-weaker c.owned_ladder_failure.result _ _ (λ found h. h ∙ ap first_failure same) c.owned_ladder_failure.ensures
