use Rattle.mat_sets.proofs.Common.{ap, not, sym, ◌&&◌, ◌∙◌, is_member}
use Rattle.mat_sets.proofs.Rounds.{starts_cut, starts_put, starts_skip}
use Rattle.mat_sets.proofs.level_search.starts.Goals as goal
use Rattle.mat_sets.proofs.level_search.starts.Goals.{then-is_start+in_ok-push, else-is_start}

pub loop-v-preserved : goal.loop-v-preserved
loop-v-preserved g c =
    let start = g.R.Relation.start c.args.relation.now in
    elim c.if-is_start.branch [
      | then-is_start+in_ok-push w ↦ (let s = sym c.is_start.ensures ∙ w.if-is_start.true in record {
        found_is = λ x. ap (λ l. is_member x l.items) w.found-is ∙ ap (λ l. is_member x l) w.in_ok-push.ensures.items
            ∙ starts_put c.loop-v.v x start c.loop-v.found.items s (c.loop-v.invariant.found_is x);
        rest_is = λ x. ap (λ l. is_member x l) (w.unreached-is ∙ w.remove.ensures)
            ∙ starts_cut c.loop-v.v x start _ c.loop-v.unreached s (c.loop-v.invariant.rest_is x);
      })
      | else-is_start w ↦ (let s = sym c.is_start.ensures ∙ w.if-is_start.false in record {
        found_is = λ x. ap (λ l. is_member x l.items) w.found-is ∙ c.loop-v.invariant.found_is x ∙ starts_skip c.loop-v.v x start s;
        rest_is = λ x. ap (λ l. is_member x l) w.unreached-is ∙ c.loop-v.invariant.rest_is x
            ∙ ap (λ b. is_member x c.args.unreached.now && not b) (starts_skip c.loop-v.v x start s);
      })
    ]
