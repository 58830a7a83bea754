use Rattle.mat_sets.proofs.Common.{◌&&◌, ◌≤◌, ◌-◌, ltb, AreTaken}
use Rattle.mat_sets.proofs.level_search.take_arcs.Given as goal

abbrev pub invariant-loop-next : goal.invariant-loop-next
invariant-loop-next g l = record {
  within : l.from ≤ g.R.Relation.count l.relation;
  taken : AreTaken (λ x. ltb x l.from && g.R.Relation.arc l.relation l.u x) l.u l.fn.unreached l.fn.found.items l.fn.before.items l.unreached l.found.items l.before.items;
}

abbrev pub decreases-loop-next : goal.decreases-loop-next
decreases-loop-next g l = g.R.Relation.count l.relation - l.from
