use Rattle.mat_check.proofs.Common.{◌∙◌, ap, get_or, length, refl, arith, IfOk-weaker, length-caps_by, cap_at, caps_made, labels_read}
use Rattle.mat_check.proofs.graphs.heads.entering_once.Goals as goal

pub by_labels-requires-clause-capped : goal.by_labels-requires-clause-capped
by_labels-requires-clause-capped c =
    omega (arith, ap length c.in_ok-caps.ensures, length-caps_by c.args.vertices (cap_at c.args.root), c.ranges.vertices)

pub returns-clause-value : goal.returns-clause-value
returns-clause-value c =
    let heads = c.deref.result.now in
    IfOk-weaker c.by_labels.result _ _ (λ p h. h
    ∙ caps_made (length heads) c.args.vertices (λ e. get_or heads e 0) (cap_at c.args.root) c.in_ok-caps.caps.items c.in_ok-caps.ensures
    ∙ labels_read (λ p. p.1) c.args.arcs.now heads c.args.vertices (cap_at c.args.root) refl (c.deref.ensures.value ∙ c.in_ok-heads.ensures))
    c.by_labels.ensures.value
