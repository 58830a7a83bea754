use Rattle.mat_union.proofs.Common.{◌≡◌, ◌+◌, ◌-◌, suc, length, refl, sym, subst, arith, AreMovesAt}
use Rattle.mat_union.proofs.MovesAlong.{moves_end, moves_more, moves_none, AreMovesSo}
use Rattle.mat_union.proofs.move_search.moves_to.Goals as goal

pub loop-i-init : goal.loop-i-init
loop-i-init c = moves_none c.args.parts.now c.args.walk.now _ c.new-moves.ensures.items

pub loop-i-preserved : goal.loop-i-preserved
loop-i-preserved c = subst (AreMovesSo c.args.parts.now c.args.walk.now (c.loop-i.i + 1)) (sym c.in_ok-push.ensures.items)
    (moves_more c.loop-i.invariant _ refl c.place_of-place.ensures)

pub returns : goal.returns
returns c =
    let end : suc (length c.args.walk.now - 1) ≡ length c.args.walk.now = omega (arith, c.requires.some) in
    let at : c.loop-i.i ≡ length c.args.walk.now - 1 = omega (arith, c.loop-i-test.false, c.loop-i.auto.i-end) in
    subst (AreMovesAt c.args.parts.now c.args.walk.now c.args.part) (sym c.in_ok-push-2.ensures.items)
    (moves_end (subst (λ k. AreMovesSo c.args.parts.now c.args.walk.now k c.loop-i.moves.items) at c.loop-i.invariant) _ c.args.part end refl refl)
