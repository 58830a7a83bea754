use Rattle.mat_sets.proofs.Common.{◌≡◌, ◌&&◌, not, ltb, ℕ, is_member}
use Rattle.mat_sets.proofs.level_search.starts.Given as goal

abbrev pub invariant-loop-v : goal.invariant-loop-v
invariant-loop-v g l = record {
  found_is : (x : ℕ) → is_member x l.found.items ≡ (ltb x l.v && g.R.Relation.start l.relation x);
  rest_is : (x : ℕ) → is_member x l.unreached ≡ (is_member x l.fn.unreached && not (ltb x l.v && g.R.Relation.start l.relation x));
}
