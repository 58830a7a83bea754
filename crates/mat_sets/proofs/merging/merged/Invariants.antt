use Rattle.mat_sets.proofs.Common.{◌+◌, ◌-◌, ◌≤◌, length}
use Rattle.mat_sets.proofs.UnionWalks.{IsMerging}
use Rattle.mat_sets.proofs.merging.merged.Given as goal

abbrev pub invariant-loop-i : goal.invariant-loop-i
invariant-loop-i l = record { inside : l.i ≤ length l.a; others_inside : l.j ≤ length l.b; so_far : IsMerging l.a l.b l.i l.j l.all.items }

abbrev pub decreases-loop-i : goal.decreases-loop-i
decreases-loop-i l = (length l.a - l.i) + (length l.b - l.j)
