use Rattle.mat_minors.proofs.Common.{sym, ◌∙◌, both_ways}
use Rattle.mat_minors.proofs.DualExchanges.{kept_row-exchanged, kept_row-outside, kept_row-added}
use Rattle.mat_minors.proofs.dual.dual_row.Goals as goal
use Rattle.mat_minors.proofs.dual.dual_row.Goals.{then-contains+else-is_subset, else-contains}

pub returns-then-is_subset-clause-row : goal.returns-then-is_subset-clause-row
returns-then-is_subset-clause-row c =
    let kept = c.args.kept.now in
    kept_row-exchanged kept.set kept.base kept.columns c.args.x c.row-column.result.now _ c.row-column.ensures c.in_ok-from_bits.ensures.members
    (sym c.contains.ensures ∙ c.if-contains.true) (c.is_subset.ensures.inside.0 c.if-is_subset.true)

pub returns-clause-row : goal.returns-clause-row
returns-clause-row c =
    let kept = c.args.kept.now in
    elim c.if-contains.branch [
      | then-contains+else-is_subset w ↦
          kept_row-added kept.set kept.base kept.columns c.args.x w.row-column.result.now _ w.row-column.ensures c.in_ok-from_bits-2.ensures.members
          (sym c.contains.ensures ∙ w.if-contains.true) (λ inside. both_ways _ w.if-is_subset.false (w.is_subset.ensures.inside.1 inside))
      | else-contains w ↦ kept_row-outside kept.set kept.base kept.columns c.args.x _ c.in_ok-from_bits-2.ensures.members
          (sym c.contains.ensures ∙ w.if-contains.false)
    ]
