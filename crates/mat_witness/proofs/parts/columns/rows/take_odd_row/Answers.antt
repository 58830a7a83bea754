use Rattle.mat_witness.proofs.Common.{◌≡◌, ℕ, ◌<◌, ◌∙◌, true, false, length, get_or, sym, subst, arith, common_steps, get_or_default, inner_product_is_one}
use Rattle.mat_witness.proofs.parts.columns.rows.take_odd_row.Goals as goal

pub returns-clause-some : goal.returns-clause-some
returns-clause-some c =
    let rows = c.args.rows.now.items in
    let column = c.args.column in
    let at = c.in_ok-at.at in
    let row = c.remove-row.result in
    let read = c.deref.ensures.value in
    let found = c.in_ok-at.ensures.some in
    let within : at < length rows = subst (λ xs. at < length xs) read found.0 in
    let is : get_or rows at 0 ≡ row = get_or_default rows at 0 row within ∙ sym c.remove-row.ensures.value in
    let removed = c.remove-row.ensures.items in
    let ok = c.remove-row.new.self.ok in
    let value = c.as_mut_slice.ensures.value in
    let evened = c.make_even.ensures in
    record {
      at = at;
      within = within;
      is = is;
      odd = subst (λ x. inner_product_is_one x column ≡ true) is
          (subst (λ xs. inner_product_is_one (get_or xs at 0) column ≡ true) read found.1);
      none_before = subst (λ xs. (i : ℕ) → i < at → inner_product_is_one (get_or xs i 0) column ≡ false) read c.in_ok-at.ensures.none_before;
      left = grind (arith, common_steps, removed, evened, value, ok);
    }
