use Rattle.mat_check.proofs.Common.{◌≡◌, length, Some, slice_get, refl, sym, subst, ap, arith, length_push, slice_get_read}
use Rattle.mat_check.proofs.BeatenRungs.{one_more_told}
use Rattle.mat_check.proofs.ladder.beaten.beaten_by_sums.Goals as goal

pub is_beaten_by_sums-requires-clause-ranged : goal.is_beaten_by_sums-requires-clause-ranged
is_beaten_by_sums-requires-clause-ranged g c κs within =
    c.requires.ranged.each c.loop-k.k c.index-rungs-k.result
    (slice_get_read c.args.rungs.now _ c.loop-k.k c.index-rungs-k.result refl c.loop-k-test.true c.index-rungs-k.is)

pub loop-k-preserved : goal.loop-k-preserved
loop-k-preserved g c =
    let rungs = c.args.rungs.now in
    let rung = c.index-rungs-k.result in
    let beaten = c.loop-k.beaten.items in
    let b = c.is_beaten_by_sums.result in
    let count = c.loop-k.invariant.count in
    let items = c.in_ok-push.ensures.items in
    let at : slice_get rungs c.loop-k.k ≡ Some rung = slice_get_read rungs _ c.loop-k.k rung refl c.loop-k-test.true c.index-rungs-k.is in
    record {
      count = omega (arith, ap length items, length_push beaten b, count);
      told = one_more_told (g.M.Matroid.ground_size c.args.m.now) (g.M.Matroid.indep c.args.m.now) c.args.side rungs beaten c.push.new.self.items b rung
          c.loop-k.invariant.told items (subst (λ i. slice_get rungs i ≡ Some rung) (sym count) at) c.is_beaten_by_sums.ensures;
    }
