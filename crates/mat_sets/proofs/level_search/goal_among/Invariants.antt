use Rattle.mat_sets.proofs.Common.{◌≡◌, ℕ, false, true, take, is_member}
use Rattle.mat_sets.proofs.level_search.goal_among.Given as goal

abbrev pub invariant-loop-v : goal.invariant-loop-v
invariant-loop-v g l = (x : ℕ) → is_member x (take l.v-index l.vertices) ≡ true → g.R.Relation.goal l.relation x ≡ false
