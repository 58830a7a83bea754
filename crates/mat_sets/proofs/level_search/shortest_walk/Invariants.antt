use Rattle.mat_sets.proofs.LevelSearch.{IsSearched, count_unreached}
use Rattle.mat_sets.proofs.level_search.shortest_walk.Given as goal

abbrev pub invariant-rounds : goal.invariant-rounds
invariant-rounds g l =
    let r = g.R.Relation in
    IsSearched (r.count l.relation) (r.arc l.relation) (r.start l.relation) (r.goal l.relation) l.arcs l.unreached l.frontier.items l.before.items

abbrev pub decreases-rounds : goal.decreases-rounds
decreases-rounds g l = count_unreached (g.R.Relation.count l.relation) l.unreached
