use Rattle.mat_count.proofs.Common.{ℕ, List, length, get_or, sym, subst, arith, IsPartition}
use Rattle.mat_count.proofs.LabelClasses.{IsPartition-classes_by}
use Rattle.mat_count.proofs.partition.Partition.by_labels.Goals as goal

pub new-requires : goal.new-requires
new-requires c =
    subst (λ (classes : List (List ℕ)). IsPartition (length c.args.labels.now) classes c.args.caps.items) (sym c.in_ok-classes.ensures)
    (IsPartition-classes_by (length c.args.labels.now) _ (λ e. get_or c.args.labels.now e 0) c.args.caps.items (omega (arith, c.len.ensures)))
