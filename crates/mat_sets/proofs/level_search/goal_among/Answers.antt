use Rattle.mat_sets.proofs.Common.{arith, sym, ◌∙◌, refl}
use Rattle.mat_sets.proofs.Members.{is_member-get_or}
use Rattle.mat_sets.proofs.Rounds.{none_more}
use Rattle.mat_sets.proofs.level_search.goal_among.Goals as goal

pub is_goal-requires-clause-below : goal.is_goal-requires-clause-below
is_goal-requires-clause-below g c = c.requires.below _ (is_member-get_or c.args.vertices.now c.loop-v.v-index _ (omega arith) refl)

pub returns-then-is_goal : goal.returns-then-is_goal
returns-then-is_goal g c = (is_member-get_or c.args.vertices.now c.loop-v.v-index _ (omega arith) refl, sym c.is_goal.ensures ∙ c.if-is_goal.true)

pub loop-v-preserved : goal.loop-v-preserved
loop-v-preserved g c = none_more c.args.vertices.now c.loop-v.v-index (g.R.Relation.goal c.args.relation.now) (omega arith) c.loop-v.invariant
    (sym c.is_goal.ensures ∙ c.if-is_goal.false)
