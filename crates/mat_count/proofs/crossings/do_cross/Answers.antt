use Rattle.mat_count.proofs.Common.{ap, not, sym, ◌∙◌}
use Rattle.mat_count.proofs.SharedMembers.{crosses-inside, crosses-met, crosses-unmet}
use Rattle.mat_count.proofs.crossings.do_cross.Goals as goal

pub returns-then-is_disjoint : goal.returns-then-is_disjoint
returns-then-is_disjoint c = sym (crosses-unmet c.args.a.now c.args.b.now (c.is_disjoint.ensures.apart.0 c.if-is_disjoint.true))

pub returns-then-not-is_subset : goal.returns-then-not-is_subset
returns-then-not-is_subset c =
    sym (crosses-met c.args.a.now c.args.b.now c.is_disjoint.result c.is_subset.result c.is_subset-then-not-is_subset.result
    c.is_disjoint.ensures.apart c.if-is_disjoint.false c.is_subset.ensures.inside c.if-not-is_subset.true
    c.is_subset-then-not-is_subset.ensures.inside)

pub returns-else-not-is_subset : goal.returns-else-not-is_subset
returns-else-not-is_subset c =
    ap not c.if-not-is_subset.false ∙ sym (crosses-inside c.args.a.now c.args.b.now (c.is_subset.ensures.inside.0 c.if-not-is_subset.false))
