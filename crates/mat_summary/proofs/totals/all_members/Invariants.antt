use Rattle.mat_summary.proofs.Common.{◌≡◌, ◌≤◌, ◌*◌, take, most_elements, all_members}
use Rattle.mat_summary.proofs.totals.all_members.Given as goal

abbrev pub invariant-loop-set : goal.invariant-loop-set
invariant-loop-set l = record {
  so_far : l.count ≡ all_members (take l.set-index l.sets);
  small : l.count ≤ most_elements * l.set-index;
}
