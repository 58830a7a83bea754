use Rattle.mat_minors.proofs.Common.{sym, ◌∙◌}
use Rattle.mat_minors.proofs.DualNext.{base_meets, base_serves}
use Rattle.mat_minors.proofs.dual.same_base.Goals as goal

pub returns-then-is_some : goal.returns-then-is_some
returns-then-is_some c =
    base_meets c.args.kept.now c.args.next.now c.in_ok-set.set c.next_common.result c.next_common.ensures c.in_ok-set.ensures.members
    (sym c.is_some.ensures ∙ c.if-is_some.true)

pub returns : goal.returns
returns c =
    base_serves c.args.kept.now _ c.args.next.now c.in_ok-set.set c.next_common.result c.next_common.ensures c.in_ok-set.ensures.members
    (c.set.view_is ∙ c.in_ok-set.ensures.members) c.in_ok-copy.ensures c.in_ok-copy-2.ensures (sym c.is_some.ensures ∙ c.if-is_some.false)
