use Rattle.mat_sets.proofs.Common.{◌<◌, ◌++◌, [], ◌∷◌, length, arith, sym, ap, ◌∙◌, get_or_read, take_all, take_more}
use Rattle.mat_sets.proofs.bit_rows.BitRows.copy.Goals as goal

pub loop-at-preserved : goal.loop-at-preserved
loop-at-preserved c =
    let rows = c.self.inside.rows.items in
    let at = c.loop-at.at in
    let here : at < length rows = omega (arith, c.loop-at-test.true, c.len-at-end.ensures, ap length c.self.view_is) in
    let same = get_or_read rows at c.index.result.now here c.index.ensures [] in
    let before = rw (sym c.self.view_is) at c.loop-at.invariant in
    rw (sym c.self.view_is)
    (c.in_ok-push.ensures.items ∙ (λ k. before k ++ (c.in_ok-copy.ensures ∙ same) k ∷ []) ∙ sym (take_more rows at [] here))

pub returns : goal.returns
returns c =
    c.loop-at.invariant
    ∙ take_all c.loop-at.at c.args.self.now (omega (arith, c.loop-at-test.false, c.len-at-end.ensures, ap length c.self.view_is))
