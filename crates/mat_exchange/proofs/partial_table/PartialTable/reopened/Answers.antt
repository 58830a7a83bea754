use Rattle.mat_exchange.proofs.Common.{◌≡◌, ℕ, ◌≤◌, ◌&&◌, not, Bool, false, [], List, refl, subst, sym, arith, cond-false, most_elements, row_at, AreRemoved, is_member, IsFilledTable, entered_to}
use Rattle.mat_exchange.proofs.TableSteps.{IsFilledTable-reopened}
use Rattle.mat_exchange.proofs.partial_table.PartialTable.reopened.Goals as goal
use Rattle.mat_exchange.proofs.partial_table.PartialTable.reopened.Goals.{then-has_member, else-has_member}

pub empty_rows-requires : goal.empty_rows-requires
empty_rows-requires c = subst (λ k. k ≤ most_elements) (sym c.into_rows-rows.ensures.count) c.requires.few

none_removed : (lost : List ℕ) (rows : List (List ℕ)) → ((x : ℕ) → is_member x lost ≡ false) → AreRemoved lost rows rows
none_removed lost rows none = record { count = refl; members = λ i x. kept (is_member x (row_at rows i)) (is_member x lost) (none x) }
  where
    kept : (b l : Bool) → l ≡ false → b ≡ (b && not l)
    kept b l h = grind arith

pub returns : goal.returns
returns c = λ exchanges long stays.
    let told = c.into_rows-rows.ensures in
    subst (λ none. IsFilledTable exchanges (entered_to c.args.missing.now 0) none c.if-has_member.rows c.if-has_member.columns) (sym c.new.ensures)
    (elim c.if-has_member.branch [
      | then-has_member w ↦ rw (w.rows-is, w.columns-is) (IsFilledTable-reopened c.args.table exchanges c.args.lost.now c.args.missing.now _ _ _ _
          told.count told.columns told.rows told.transposed w.empty_rows.ensures.count w.empty_rows.ensures.rows w.remove_from_each.ensures
          c.requires.lost c.requires.bare c.requires.added long stays)
      | else-has_member w ↦ (let none = c.has_member.ensures.none w.if-has_member.false in
          rw (w.rows-is, w.columns-is) (IsFilledTable-reopened c.args.table exchanges c.args.lost.now c.args.missing.now _ _ _ _
          told.count told.columns told.rows told.transposed refl (λ k. sym (cond-false (is_member k c.args.lost.now) [] _ (none k)))
          (none_removed c.args.lost.now _ none) c.requires.lost c.requires.bare c.requires.added long stays))
    ])
