use Rattle.mat_count.proofs.Common.{ap, not, sym, ◌∙◌}
use Rattle.mat_count.proofs.SharedMembers.{crosses-inside, crosses-shared, crosses-unshared}
use Rattle.mat_count.proofs.crossings.bits_cross.Goals as goal

pub returns-then-is_none : goal.returns-then-is_none
returns-then-is_none c =
    sym (crosses-unshared c.args.a.now c.args.b.now c.next_common.result c.next_common.ensures
    (c.is_none.ensures ∙ ap not c.if-is_none.true))

pub returns-then-not-is_subset : goal.returns-then-not-is_subset
returns-then-not-is_subset c =
    sym (crosses-shared c.args.a.now c.args.b.now c.next_common.result c.is_subset.result c.is_subset-then-not-is_subset.result
    c.next_common.ensures (c.is_none.ensures ∙ ap not c.if-is_none.false) c.is_subset.ensures.inside c.if-not-is_subset.true
    c.is_subset-then-not-is_subset.ensures.inside)

pub returns-else-not-is_subset : goal.returns-else-not-is_subset
returns-else-not-is_subset c =
    ap not c.if-not-is_subset.false ∙ sym (crosses-inside c.args.a.now c.args.b.now (c.is_subset.ensures.inside.0 c.if-not-is_subset.false))
