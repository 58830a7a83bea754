use Rattle.mat_count.proofs.Common.{◌≡◌, ◌∙◌, get_or, length, replicate, rules, IfOk-weaker, one_each}
use Rattle.mat_count.proofs.LabelledMatroids.{caps_by-ones, caps_made}
use Rattle.mat_count.proofs.partition.Partition.one_for_each_label.Goals as goal

pub returns-clause-value : goal.returns-clause-value
returns-clause-value c =
    let made : c.in_ok-caps.caps.items ≡ replicate c.args.count 1 = search rules in
    IfOk-weaker c.by_labels.result _ _ (λ p h. h ∙ caps_made (length c.args.labels.now) c.args.count (λ e. get_or c.args.labels.now e 0) one_each
    c.in_ok-caps.caps.items (made ∙ caps_by-ones c.args.count)) c.by_labels.ensures.value
