use Rattle.mat_check.proofs.Common.{◌&&◌, [], get_or, length, sym, ap, ◌∙◌, get_or_default, is_member, some_below_from, some_below-next, some_below-zero}
use Rattle.mat_check.proofs.graphs.trees.is_inside.Goals as goal

pub loop-q-init : goal.loop-q-init
loop-q-init c = some_below-zero (λ q. is_member c.args.first (get_or c.args.classes.now q []) && is_member c.args.second (get_or c.args.classes.now q []))

pub returns-then-holds_both : goal.returns-then-holds_both
returns-then-holds_both c =
    let here = get_or_default c.args.classes.now c.loop-q.q [] c.index-classes-q.result c.loop-q-test.true ∙ sym c.index-classes-q.is in
    sym (some_below_from (length c.args.classes.now) c.loop-q.q
    (λ q. is_member c.args.first (get_or c.args.classes.now q []) && is_member c.args.second (get_or c.args.classes.now q [])) c.loop-q-test.true
    (ap (λ set. is_member c.args.first set && is_member c.args.second set) here ∙ sym c.holds_both.ensures ∙ c.if-holds_both.true))

pub loop-q-preserved : goal.loop-q-preserved
loop-q-preserved c =
    let here = get_or_default c.args.classes.now c.loop-q.q [] c.index-classes-q.result c.loop-q-test.true ∙ sym c.index-classes-q.is in
    some_below-next c.loop-q.q (λ q. is_member c.args.first (get_or c.args.classes.now q []) && is_member c.args.second (get_or c.args.classes.now q []))
    (ap (λ set. is_member c.args.first set && is_member c.args.second set) here ∙ sym c.holds_both.ensures ∙ c.if-holds_both.false)
    c.loop-q.invariant
