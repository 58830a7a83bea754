use Rattle.mat_reasons.proofs.Common.{◌≡◌, ◌∙◌, ℕ, length, ap, subst, sym, arith, ends_of, is_member, with_one, AreValuesBelow, AreValuesBelow-put, AreValuesBelow-skip, AreValuesBelow-start}
use Rattle.mat_reasons.proofs.table_lines.columns_inside.Goals as goal
use Rattle.mat_reasons.proofs.table_lines.columns_inside.Goals.{then-contains+in_ok-add, else-contains}

pub loop-e-init : goal.loop-e-init
loop-e-init c =
    let inside = λ (e : ℕ). is_member e c.args.set.now in
    let column = λ (e : ℕ). (ends_of c.args.cells.now e).1 in
    subst (AreValuesBelow inside column 0) (sym c.new-columns.ensures.members) (AreValuesBelow-start inside column)

pub loop-e-preserved : goal.loop-e-preserved
loop-e-preserved c =
    let inside = λ (e : ℕ). is_member e c.args.set.now in
    let column = λ (e : ℕ). (ends_of c.args.cells.now e).1 in
    elim c.if-contains.branch [
      | then-contains+in_ok-add w ↦ AreValuesBelow-put inside column c.loop-e.e c.loop-e.columns _ c.loop-e.invariant
          (w.columns-is ∙ w.in_ok-add.ensures.ok.1 ∙ ap (with_one c.loop-e.columns) (ap (λ p. p.1) w.get.ensures))
          (sym c.contains.ensures.found ∙ w.if-contains.true)
      | else-contains w ↦ AreValuesBelow-skip inside column c.loop-e.e c.loop-e.columns _ c.loop-e.invariant w.columns-is
          (sym c.contains.ensures.found ∙ w.if-contains.false)
    ]

pub returns : goal.returns
returns c =
    let cells = c.args.cells.now in
    let inside = λ (e : ℕ). is_member e c.args.set.now in
    let column = λ (e : ℕ). (ends_of cells e).1 in
    let all : c.loop-e.e ≡ length cells = omega (arith, c.loop-e-test.false, c.loop-e.auto.e-end, c.len-e-end.ensures) in
    let columns : AreValuesBelow inside column (length cells) c.loop-e.columns =
    subst (λ n. AreValuesBelow inside column n c.loop-e.columns) all c.loop-e.invariant in
    columns.members
