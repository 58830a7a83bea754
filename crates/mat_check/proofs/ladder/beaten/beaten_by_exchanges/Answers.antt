-- Rung k is in range, so that something is kept of its set, where it is independent.
use Rattle.mat_check.proofs.Common.{◌≡◌, ◌∙◌, length, Some, slice_get, refl, sym, subst, ap, arith, length_push, slice_get_read, weight_at, is_beaten, half_of}
use Rattle.mat_check.proofs.BeatenRungs.{one_more_told}
use Rattle.mat_check.proofs.RangedHalves.{half_of_ranged}
use Rattle.mat_check.proofs.ladder.beaten.beaten_by_exchanges.Goals as goal

pub move_to-requires-clause-below : goal.move_to-requires-clause-below
move_to-requires-clause-below g c κs within =
    let at = slice_get_read c.args.rungs.now _ c.loop-k.k c.index-rungs-k.result refl c.loop-k-test.true c.index-rungs-k.is in
    let ranged = c.requires.ranged.each c.loop-k.k c.index-rungs-k.result at in
    ranged.0.set_in_range.below

pub is_beaten_by_exchange-requires-clause-lengths : goal.is_beaten_by_exchange-requires-clause-lengths
is_beaten_by_exchange-requires-clause-lengths g c κs within =
    let rung = c.index-rungs-k.result in
    let at = slice_get_read c.args.rungs.now _ c.loop-k.k rung refl c.loop-k-test.true c.index-rungs-k.is in
    let n = g.M.Matroid.ground_size c.args.m.now in
    let part = half_of_ranged c.args.side n c.loop-k.k rung (c.requires.ranged.each c.loop-k.k rung at) in
    ap length c.half.ensures ∙ part.size

pub loop-k-preserved : goal.loop-k-preserved
loop-k-preserved g c =
    let n = g.M.Matroid.ground_size c.args.m.now in
    let p = g.M.Matroid.indep c.args.m.now in
    let rungs = c.args.rungs.now in
    let rung = c.index-rungs-k.result in
    let beaten = c.loop-k.beaten.items in
    let b = c.in_ok-is_beaten.is_beaten in
    let here = c.in_ok-here-2 in
    let count = c.loop-k.invariant.count in
    let items = c.in_ok-push.ensures.items in
    let at : slice_get rungs c.loop-k.k ≡ Some rung = slice_get_read rungs _ c.loop-k.k rung refl c.loop-k-test.true c.index-rungs-k.is in
    record {
      count = omega (arith, ap length items, length_push beaten b, count);
      told = one_more_told n p c.args.side rungs beaten c.push.new.self.items b rung c.loop-k.invariant.told items
          (subst (λ i. slice_get rungs i ≡ Some rung) (sym count) at)
          (λ passes. c.in_ok-is_beaten.ensures ∙ ap (λ h. is_beaten n p (weight_at h) here.here.set) c.half.ensures
          ∙ ap (is_beaten n p (weight_at (half_of c.args.side rung))) (here.ensures.moved passes));
      passes = here.ensures.passes;
      kept = here.ensures.kept;
    }
