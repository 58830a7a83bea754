use Rattle.mat_sets.proofs.Common.{◌≡◌, length, insert, vec_len, sym, ap, ◌∙◌, arith, rules}
use Rattle.std.proofs.lemmas.List.Edits.{insert_end}
use Rattle.mat_sets.proofs.elem_set.put_at.Goals as goal

pub returns-in_ok-push : goal.returns-in_ok-push
returns-in_ok-push c =
    let items = c.args.items.now.items in
    let size : vec_len c.args.items.now ≡ length items = search rules in
    let end : length items ≡ c.args.at = omega (arith, size, c.len.ensures, c.if-at-len.true) in
    c.in_ok-push.ensures.items ∙ sym (insert_end items c.args.x) ∙ ap (λ k. insert items k c.args.x) end
