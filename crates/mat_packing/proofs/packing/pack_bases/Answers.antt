-- While the copies are not all filled to bases, their cut allows fewer bases than were tried for; so the number falls until all are full, and the last
-- cut shows that there is no base more.
use Rattle.mat_packing.proofs.Common.{◌≡◌, ◌∙◌, ◌-◌, ◌/◌, ap, arith, length, subst, sym, all_below, minus, IsSet-nil, IsSet, rank, IsRoom}
use Rattle.mat_packing.proofs.BaseCounts.{cut_short, fewer_rooms, first_room, right_packing}
use Rattle.mat_packing.proofs.packing.pack_bases.Goals as goal

pub loop-alloc-init : goal.loop-alloc-init
loop-alloc-init g c =
    let n = g.M.Matroid.ground_size c.args.m.now in
    let p = g.M.Matroid.indep c.args.m.now in
    let laws = c.lawful.ensures in
    let base : c.in_ok-base_size.base_size ≡ rank p (all_below n) = c.in_ok-base_size.ensures.rank ∙ ap (rank p) (c.in_ok-all.ensures.members ∙ ap all_below c.size-n.ensures) in
    let other = c.if-base_size-eq0.false in
    record {
      filled = c.in_ok-filled.ensures;
      set = subst (IsSet n) (sym c.new-cut.ensures.members) (IsSet-nil n);
      short = first_room laws c.in_ok-base_size.base_size _ c.new-cut.result base (omega arith) (ap (λ k. k / c.in_ok-base_size.base_size) c.size-n.ensures) c.new-cut.ensures.members;
    }

pub bases_allowed-requires-clause-set : goal.bases_allowed-requires-clause-set
bases_allowed-requires-clause-set g c κs within = c.loop-alloc.invariant.filled.set

pub bases_allowed-requires-clause-less : goal.bases_allowed-requires-clause-less
bases_allowed-requires-clause-less g c κs within =
    let n = g.M.Matroid.ground_size c.args.m.now in
    let p = g.M.Matroid.indep c.args.m.now in
    let base : c.in_ok-base_size.base_size ≡ rank p (all_below n) = c.in_ok-base_size.ensures.rank ∙ ap (rank p) (c.in_ok-all.ensures.members ∙ ap all_below c.size-n.ensures) in
    let w = c.are_full.ensures.other c.loop-alloc-test.true in
    let less = (cut_short c.lawful.ensures c.loop-alloc.invariant.filled w.0 w.1 (λ e. w.2 (e ∙ sym base))).0 in
    omega arith

pub loop-alloc-preserved : goal.loop-alloc-preserved
loop-alloc-preserved g c =
    let n = g.M.Matroid.ground_size c.args.m.now in
    let p = g.M.Matroid.indep c.args.m.now in
    let base : c.in_ok-base_size.base_size ≡ rank p (all_below n) = c.in_ok-base_size.ensures.rank ∙ ap (rank p) (c.in_ok-all.ensures.members ∙ ap all_below c.size-n.ensures) in
    let room = subst (λ r. IsRoom (length (minus (all_below n) c.loop-alloc.filled.cut)) (r - rank p c.loop-alloc.filled.cut) c.in_ok-count.count) base c.in_ok-count.ensures in
    record { filled = c.in_ok-next.ensures; set = c.loop-alloc.invariant.filled.set; short = room.no_more }

pub loop-alloc-smaller : goal.loop-alloc-smaller
loop-alloc-smaller g c =
    let n = g.M.Matroid.ground_size c.args.m.now in
    let p = g.M.Matroid.indep c.args.m.now in
    let base : c.in_ok-base_size.base_size ≡ rank p (all_below n) = c.in_ok-base_size.ensures.rank ∙ ap (rank p) (c.in_ok-all.ensures.members ∙ ap all_below c.size-n.ensures) in
    let room = subst (λ r. IsRoom (length (minus (all_below n) c.loop-alloc.filled.cut)) (r - rank p c.loop-alloc.filled.cut) c.in_ok-count.count) base c.in_ok-count.ensures in
    let w = c.are_full.ensures.other c.loop-alloc-test.true in
    let short = (cut_short c.lawful.ensures c.loop-alloc.invariant.filled w.0 w.1 (λ e. w.2 (e ∙ sym base))).1 in
    fewer_rooms (length (minus (all_below n) c.loop-alloc.filled.cut)) (rank p (all_below n) - rank p c.loop-alloc.filled.cut) c.in_ok-count.count c.loop-alloc.count room short

pub returns : goal.returns
returns g c =
    let n = g.M.Matroid.ground_size c.args.m.now in
    let p = g.M.Matroid.indep c.args.m.now in
    let base : c.in_ok-base_size.base_size ≡ rank p (all_below n) = c.in_ok-base_size.ensures.rank ∙ ap (rank p) (c.in_ok-all.ensures.members ∙ ap all_below c.size-n.ensures) in
    let other = c.if-base_size-eq0.false in
    let full = c.are_full.ensures.full c.loop-alloc-test.false in (
      omega arith,
      right_packing c.lawful.ensures c.loop-alloc.invariant.filled c.loop-alloc.cut (λ i l. full i l ∙ base) c.loop-alloc.invariant.set c.loop-alloc.invariant.short,
    )
