-- Without a loop each part of the elements has a rank, so a cut tells how many sets it needs; while the sets leave an element out, the cut is larger
-- than what they hold of it and needs more sets.
use Rattle.mat_packing.proofs.Common.{◌∙◌, ◌-◌, ◌<◌, ap, arith, length, subst, sym, MatchOption, IsSet, length-all_below, IsSet-length, IsLoop, rank, HasNoLoop}
use Rattle.mat_packing.proofs.CoverCounts.{cut_long, more_needed, needed_at_most, right_covering, some_rank}
use Rattle.mat_packing.proofs.covering.cover.Goals as goal

pub sets_needed-requires-clause-some : goal.sets_needed-requires-clause-some
sets_needed-requires-clause-some g c κs within =
    let long = ap length c.in_ok-cut.ensures.members ∙ length-all_below c.size-n.result in
    let other = c.if-n-eq0.false in
    let some : 0 < length c.in_ok-cut.cut = omega arith in
    some

pub loop-filled-init : goal.loop-filled-init
loop-filled-init g c =
    let n = g.M.Matroid.ground_size c.args.m.now in
    let p = g.M.Matroid.indep c.args.m.now in
    let alone : HasNoLoop n p = subst (λ f. MatchOption f (HasNoLoop n p) (IsLoop n p)) c.in_default.is c.in_ok-loop_at.ensures in
    let long = ap length c.in_ok-cut.ensures.members ∙ length-all_below c.size-n.result in
    let other = c.if-n-eq0.false in
    let some : 0 < length c.in_ok-cut.cut = omega arith in
    let set = subst (λ k. IsSet k c.in_ok-cut.cut) c.size-n.ensures c.in_ok-cut.ensures.set in
    let enough = c.in_ok-count.ensures in
    let each = some_rank c.lawful.ensures alone c.in_ok-cut.cut set some in
    let most = needed_at_most (length c.in_ok-cut.cut) (rank p c.in_ok-cut.cut) c.in_ok-count.count enough each in
    let all = IsSet-length n c.in_ok-cut.cut set in
    record { filled = c.in_ok-filled.ensures; set = set; long = enough.no_fewer; some = enough.some; most = omega (arith, most, all) }

pub sets_needed-requires-in-loop-filled-clause-some : goal.sets_needed-requires-in-loop-filled-clause-some
sets_needed-requires-in-loop-filled-clause-some g c κs within =
    let f = c.loop-filled.invariant.filled in
    let long = cut_long c.lawful.ensures f (λ e. c.in_ok-hold_all.ensures.other c.if-not-branch.true (e ∙ sym c.size-n.ensures)) in
    let some : 0 < length c.loop-filled.filled.cut = omega (arith, long) in
    some

pub loop-filled-preserved : goal.loop-filled-preserved
loop-filled-preserved g c =
    let n = g.M.Matroid.ground_size c.args.m.now in
    let p = g.M.Matroid.indep c.args.m.now in
    let alone : HasNoLoop n p = subst (λ f. MatchOption f (HasNoLoop n p) (IsLoop n p)) c.in_default.is c.in_ok-loop_at.ensures in
    let f = c.loop-filled.invariant.filled in
    let long = cut_long c.lawful.ensures f (λ e. c.in_ok-hold_all.ensures.other c.if-not-branch.true (e ∙ sym c.size-n.ensures)) in
    let some : 0 < length c.loop-filled.filled.cut = omega (arith, long) in
    let enough = c.in_ok-count-2.ensures in
    let each = some_rank c.lawful.ensures alone c.loop-filled.filled.cut f.set some in
    let most = needed_at_most (length c.loop-filled.filled.cut) (rank p c.loop-filled.filled.cut) c.in_ok-count-2.count enough each in
    let all = IsSet-length n c.loop-filled.filled.cut f.set in
    record { filled = c.in_ok-next.ensures; set = f.set; long = enough.no_fewer; some = enough.some; most = omega (arith, most, all) }

pub loop-filled-smaller : goal.loop-filled-smaller
loop-filled-smaller g c =
    let n = g.M.Matroid.ground_size c.args.m.now in
    let p = g.M.Matroid.indep c.args.m.now in
    let alone : HasNoLoop n p = subst (λ f. MatchOption f (HasNoLoop n p) (IsLoop n p)) c.in_default.is c.in_ok-loop_at.ensures in
    let f = c.loop-filled.invariant.filled in
    let long = cut_long c.lawful.ensures f (λ e. c.in_ok-hold_all.ensures.other c.if-not-branch.true (e ∙ sym c.size-n.ensures)) in
    let some : 0 < length c.loop-filled.filled.cut = omega (arith, long) in
    let enough = c.in_ok-count-2.ensures in
    let each = some_rank c.lawful.ensures alone c.loop-filled.filled.cut f.set some in
    let most = needed_at_most (length c.loop-filled.filled.cut) (rank p c.loop-filled.filled.cut) c.in_ok-count-2.count enough each in
    let all = IsSet-length n c.loop-filled.filled.cut f.set in
    let more = more_needed (length c.loop-filled.filled.cut) (rank p c.loop-filled.filled.cut) c.in_ok-count-2.count c.loop-filled.count enough long in
    let less : n - c.in_ok-count-2.count < n - c.loop-filled.count = omega (arith, most, all, more) in
    less

pub returns : goal.returns
returns g c =
    let n = g.M.Matroid.ground_size c.args.m.now in
    let p = g.M.Matroid.indep c.args.m.now in
    let alone : HasNoLoop n p = subst (λ f. MatchOption f (HasNoLoop n p) (IsLoop n p)) c.in_default.is c.in_ok-loop_at.ensures in
    let kept = c.loop-filled.invariant in
    let other = c.if-n-eq0.false in
    let size = c.size-n.ensures in (
      alone,
      right_covering c.lawful.ensures kept.filled c.loop-filled.cut (c.in_ok-hold_all.ensures.full c.if-not-branch.false ∙ size) kept.set kept.some kept.long,
      omega (arith, other, size),
    )
