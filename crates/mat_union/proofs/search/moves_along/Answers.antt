use Rattle.mat_union.proofs.Common.{◌≡◌, ◌<◌, ◌+◌, ◌-◌, ◌^◌, ◌∙◌, length, subst, sym, ap, arith, IfOk-weaker, AreMovesAt}
use Rattle.mat_union.proofs.WalkMoves.{path_along, walk_some, last_enters}
use Rattle.mat_union.proofs.search.moves_along.Goals as goal

pub entered_part-part-requires-clause-some : goal.entered_part-part-requires-clause-some
entered_part-part-requires-clause-some c = last_enters c.requires.movable c.args.walk.now c.requires.walk _ (let s = walk_some c.requires.movable c.args.walk.now c.requires.walk in omega arith)

pub moves_to-requires-clause-few : goal.moves_to-requires-clause-few
moves_to-requires-clause-few c = subst (λ k. k < 2 ^ 32) (sym (ap length c.as_slice.ensures.items ∙ c.requires.movable.one_each)) c.requires.few

pub moves_to-requires-clause-some : goal.moves_to-requires-clause-some
moves_to-requires-clause-some c = walk_some c.requires.movable c.args.walk.now c.requires.walk

pub returns : goal.returns
returns c =
    let s = walk_some c.requires.movable c.args.walk.now c.requires.walk in
    let end : (length c.args.walk.now - 1) + 1 ≡ length c.args.walk.now = omega arith in
    IfOk-weaker c.moves_to.result _ _ (λ moves at. path_along c.requires.movable c.args.walk.now c.requires.walk (length c.args.walk.now - 1) c.entered_part-part.result end
    c.entered_part-part.ensures.below c.entered_part-part.ensures.found moves.items
    (subst (λ p. AreMovesAt p c.args.walk.now c.entered_part-part.result moves.items) c.as_slice.ensures.items at)) c.moves_to.ensures
