use Rattle.mat_union.proofs.Common.{◌≡◌, ◌+◌, ◌∙◌, true, eqb, length, get_or, take, inl, inr, refl, ap, subst, sym, both_ways, eqb-true, false≢true, or_cases, row_at, is_member, AllBelow, is_member-get_or, is_member-take_more, AllBelow-at}
use Rattle.mat_union.proofs.exchange_arcs.takes_each_place.Goals as goal

pub row-requires : goal.row-requires
row-requires c = AllBelow-at (length c.args.columns.now) c.as_slice-y-items.result.now c.loop-y.y-index
    (subst (AllBelow (length c.args.columns.now)) (sym c.as_slice-y-items.ensures.items) c.requires) c.loop-y-test.true

pub returns-then-not-contains : goal.returns-then-not-contains
returns-then-not-contains c =
    let y = get_or c.as_slice-y-items.result.now c.loop-y.y-index 0 in
    let m : is_member y c.args.part.now ≡ true = ap (is_member y) (sym c.as_slice-y-items.ensures.items)
    ∙ is_member-get_or c.as_slice-y-items.result.now c.loop-y.y-index y c.loop-y-test.true refl in
    let out = ap (is_member c.args.x) (sym c.row.ensures) ∙ sym c.contains.ensures ∙ c.if-not-contains.true in
    (λ h. absurd (false≢true h), λ all. absurd (both_ways _ out (all y m)))

pub loop-y-preserved : goal.loop-y-preserved
loop-y-preserved c = λ y h.
    let i = c.loop-y.y-index in
    let part = c.args.part.now in
    let items = c.as_slice-y-items.result.now in
    let same = c.as_slice-y-items.ensures.items in
    elim (or_cases (is_member y (take i items)) (eqb y (get_or items i 0)) (sym (is_member-take_more items i y c.loop-y-test.true) ∙ ap (λ l. is_member y (take (i + 1) l)) same ∙ h)) [
      | inl before ↦ c.loop-y.invariant y (ap (λ l. is_member y (take i l)) (sym same) ∙ before)
      | inr here ↦ ap (λ w. is_member c.args.x (row_at c.args.columns.now w)) (eqb-true y (get_or items i 0) here)
          ∙ ap (is_member c.args.x) (sym c.row.ensures) ∙ sym c.contains.ensures ∙ c.if-not-contains.false
    ]
