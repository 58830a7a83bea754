use Rattle.mat_reasons.proofs.Common.{◌≡◌, ◌∙◌, ℕ, not, length, ap, subst, sym, arith, ends_of, is_member, with_one, AreValuesBelow, AreValuesBelow-put, AreValuesBelow-skip, AreValuesBelow-start}
use Rattle.mat_reasons.proofs.table_lines.rows_outside.Goals as goal
use Rattle.mat_reasons.proofs.table_lines.rows_outside.Goals.{then-not-contains+in_ok-add, else-not-contains}

pub loop-e-init : goal.loop-e-init
loop-e-init c =
    let outside = λ (e : ℕ). not (is_member e c.args.set.now) in
    let row = λ (e : ℕ). (ends_of c.args.cells.now e).0 in
    subst (AreValuesBelow outside row 0) (sym c.new-rows.ensures.members) (AreValuesBelow-start outside row)

pub loop-e-preserved : goal.loop-e-preserved
loop-e-preserved c =
    let outside = λ (e : ℕ). not (is_member e c.args.set.now) in
    let row = λ (e : ℕ). (ends_of c.args.cells.now e).0 in
    elim c.if-not-contains.branch [
      | then-not-contains+in_ok-add w ↦ AreValuesBelow-put outside row c.loop-e.e c.loop-e.rows _ c.loop-e.invariant
          (w.rows-is ∙ w.in_ok-add.ensures.ok.1 ∙ ap (with_one c.loop-e.rows) (ap (λ p. p.0) w.get.ensures))
          (ap not (sym c.contains.ensures.found ∙ w.if-not-contains.true))
      | else-not-contains w ↦ AreValuesBelow-skip outside row c.loop-e.e c.loop-e.rows _ c.loop-e.invariant w.rows-is
          (ap not (sym c.contains.ensures.found ∙ w.if-not-contains.false))
    ]

pub returns : goal.returns
returns c =
    let cells = c.args.cells.now in
    let outside = λ (e : ℕ). not (is_member e c.args.set.now) in
    let row = λ (e : ℕ). (ends_of cells e).0 in
    let all : c.loop-e.e ≡ length cells = omega (arith, c.loop-e-test.false, c.loop-e.auto.e-end, c.len-e-end.ensures) in
    let rows : AreValuesBelow outside row (length cells) c.loop-e.rows =
    subst (λ n. AreValuesBelow outside row n c.loop-e.rows) all c.loop-e.invariant in
    rows.members
