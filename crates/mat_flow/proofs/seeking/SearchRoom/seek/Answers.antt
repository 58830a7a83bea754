-- The loop keeps that the found vertices form a chain from the starts and that none before this place has a live arc left; where it ends with a
-- goal the chain is traced back to a walk, and where it ends without one all that the starts reach was found.
use Rattle.mat_flow.proofs.Common.{◌≡◌, ◌||◌, ℕ, ◌<◌, ◌≤◌, arith, length, get_or, None, refl, sym, subst, is_member, IsChain, IsTake}
use Rattle.mat_flow.proofs.FirstGoals.{found_below, found_few, look_end, look_found, look_hit, look_next, look_start, index_is, none_is, not_none, IsLooking}
use Rattle.mat_flow.proofs.seeking.SearchRoom.seek.Goals as goal
use Rattle.mat_flow.proofs.seeking.SearchRoom.seek.Goals.{then-loop-self-test+else-at-len, else-loop-self-test}

pub loop-self-init : goal.loop-self-init
loop-self-init g c =
    let r = g.R.SearchGraph in
    let of = c.args.relation.now in
    look_start (r.count of) (r.arc of) (r.start of) (r.goal of) c.args.self.now.live c.args.self.now.before.items c.take_starts.new.live
    c.take_starts.new.found.items c.take_starts.new.before.items c.in_ok-goal.goal c.requires.room.below c.requires.room.long
    (rw c.clear.ensures.items at c.in_ok-goal.ensures.take) (rw c.clear.ensures.items at c.in_ok-goal.ensures.more)

pub take_arcs-requires-clause-below : goal.take_arcs-requires-clause-below
take_arcs-requires-clause-below g c =
    let r = g.R.SearchGraph in
    let of = c.args.relation.now in
    let inside : c.loop-self.at < length c.loop-self.self.found.items = omega (arith, c.if-at-len.true, c.len.ensures) in
    let at = index_is c.loop-self.self.found.items c.loop-self.at c.index-u.result.now inside c.index-u.ensures in
    subst (λ u. u < r.count of) (sym at) (found_below (r.count of) (r.arc of) (r.start of) (r.goal of) c.args.self.now.live c.loop-self.at c.loop-self.at
    c.loop-self.self.live c.loop-self.self.found.items c.loop-self.self.before.items c.loop-self.goal c.loop-self.invariant inside)

pub loop-self-smaller : goal.loop-self-smaller
loop-self-smaller g c =
    let r = g.R.SearchGraph in
    let of = c.args.relation.now in
    let few = found_few (r.count of) (r.arc of) (r.start of) (r.goal of) c.args.self.now.live c.loop-self.at c.loop-self.self.live
    c.loop-self.self.found.items c.loop-self.self.before.items c.loop-self.goal c.loop-self.invariant in
    let inside : c.loop-self.at < length c.loop-self.self.found.items = omega (arith, c.if-at-len.true, c.len.ensures) in
    omega arith

pub loop-self-preserved : goal.loop-self-preserved
loop-self-preserved g c =
    let r = g.R.SearchGraph in
    let of = c.args.relation.now in
    let inside : c.loop-self.at < length c.loop-self.self.found.items = omega (arith, c.if-at-len.true, c.len.ensures) in
    let none : c.loop-self.goal ≡ None = none_is c.loop-self.goal c.is_none.result c.is_none.ensures c.loop-self-test.true in
    let at : c.index-u.result.now ≡ get_or c.loop-self.self.found.items c.loop-self.at 0 = index_is c.loop-self.self.found.items c.loop-self.at c.index-u.result.now inside c.index-u.ensures in
    look_next (r.count of) (r.arc of) (r.start of) (r.goal of) c.args.self.now.live c.loop-self.at c.loop-self.self.live c.loop-self.self.found.items
    c.loop-self.self.before.items
    (subst (λ e. IsLooking (r.count of) (r.arc of) (r.start of) (r.goal of) c.args.self.now.live c.loop-self.at c.loop-self.self.live
    c.loop-self.self.found.items c.loop-self.self.before.items e) none c.loop-self.invariant)
    inside c.take_arcs.new.live c.take_arcs.new.found.items c.take_arcs.new.before.items c.in_ok-goal-2.ensures.more c.in_ok-goal-2.goal
    (subst (λ u. IsTake (r.arc of u) (r.goal of) u c.loop-self.self.live c.loop-self.self.found.items c.loop-self.self.before.items c.take_arcs.new.live
    c.take_arcs.new.found.items c.take_arcs.new.before.items c.in_ok-goal-2.goal) at c.in_ok-goal-2.ensures.take)

pub returns-in_ok-put_back-in-Some-clause-walk : goal.returns-in_ok-put_back-in-Some-clause-walk
returns-in_ok-put_back-in-Some-clause-walk g c =
    let r = g.R.SearchGraph in
    let of = c.args.relation.now in
    let some = c.in-Some.is in
    let k = subst (λ e. IsLooking (r.count of) (r.arc of) (r.start of) (r.goal of) c.args.self.now.live c.loop-self.at c.loop-self.self.live
    c.loop-self.self.found.items c.loop-self.self.before.items e) some c.loop-self.invariant in
    let chain = k.chain in
    let walk = c.in_ok-walk-in-Some.ensures (r.count of) (r.arc of) (r.start of) c.args.self.now.live c.loop-self.self.live c.loop-self.self.found.items
    (k.hit c.in-Some.last refl).0
    (subst (λ b. IsChain (r.count of) (r.arc of) (r.start of) c.args.self.now.live c.loop-self.self.live c.loop-self.self.found.items b)
    (sym c.deref.ensures.value) chain) in
    look_hit (r.count of) (r.arc of) (r.start of) (r.goal of) c.args.self.now.live c.loop-self.at c.loop-self.self.live c.loop-self.self.found.items
    c.loop-self.self.before.items c.in-Some.last c.in_ok-walk-in-Some.walk.items c.put_back.new.live k walk
    (subst (λ f. (v : ℕ) → is_member v c.put_back.new.live ≡ (is_member v c.loop-self.self.live || is_member v f)) c.deref-in-Some.ensures.value
    c.in_ok-put_back-in-Some.ensures)

pub trace_back-requires : goal.trace_back-requires
trace_back-requires g c =
    let r = g.R.SearchGraph in
    let of = c.args.relation.now in
    let some = c.in-Some.is in
    let k = subst (λ e. IsLooking (r.count of) (r.arc of) (r.start of) (r.goal of) c.args.self.now.live c.loop-self.at c.loop-self.self.live
    c.loop-self.self.found.items c.loop-self.self.before.items e) some c.loop-self.invariant in (
      r.count of,
      r.arc of,
      r.start of,
      c.args.self.now.live,
      c.loop-self.self.live,
      c.loop-self.self.found.items,
      (k.hit c.in-Some.last refl).0,
      subst (λ b. IsChain (r.count of) (r.arc of) (r.start of) c.args.self.now.live c.loop-self.self.live c.loop-self.self.found.items b)
          (sym c.deref.ensures.value) k.chain,
    )

pub returns-in-None-clause-walk : goal.returns-in-None-clause-walk
returns-in-None-clause-walk g c =
    let r = g.R.SearchGraph in
    let of = c.args.relation.now in
    let none : c.loop-self.goal ≡ None = c.in-None.is in
    let past : length c.loop-self.self.found.items ≤ c.loop-self.at = elim c.loop-self-test.branch [
      | then-loop-self-test+else-at-len w ↦ omega (arith, w.if-at-len.false, w.len.ensures)
      | else-loop-self-test w ↦ absurd (not_none c.loop-self.goal c.is_none.result c.is_none.ensures w.loop-self-test.false none)
    ] in
    let ended = subst (λ e. IsLooking (r.count of) (r.arc of) (r.start of) (r.goal of) c.args.self.now.live c.loop-self.at c.loop-self.self.live
    c.loop-self.self.found.items c.loop-self.self.before.items e) none c.loop-self.invariant in (
      look_end (r.count of) (r.arc of) (r.start of) (r.goal of) c.args.self.now.live c.loop-self.at c.loop-self.self.live c.loop-self.self.found.items
          c.loop-self.self.before.items ended past,
      look_found (r.count of) (r.arc of) (r.start of) (r.goal of) c.args.self.now.live c.loop-self.at
          c.loop-self.self.live c.loop-self.self.found.items c.loop-self.self.before.items None ended,
    )
