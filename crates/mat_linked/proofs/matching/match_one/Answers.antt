-- A walk to a free set moves the matched elements along it; where the search finds none, the element cannot be matched beside them.
use Rattle.mat_linked.proofs.Common.{◌≢◌, ◌<◌, ◌∙◌, ℕ, ap, get_or, length, subst, sym, IsRoom}
use Rattle.mat_linked.proofs.Searching.{matching_moves, shut_ends, shut_moves, stuck_ends}
use Rattle.mat_linked.proofs.matching.match_one.Goals as goal

pub seek-requires-clause-room : goal.seek-requires-clause-room
seek-requires-clause-room c = subst (λ b. IsRoom (length b) c.args.room.now) (sym c.deref.ensures.value) c.requires.ready.fits

pub returns-in-Some-clause-matched : goal.returns-in-Some-clause-matched
returns-in-Some-clause-matched c =
    let found = rw c.in-Some.is at c.in_ok-walk.ensures.walk in
    matching_moves c.args.rows.now c.args.matched.now.items c.deref.result.now c.args.element c.deref.ensures.value _ c.requires.ready.shut
    c.shift_along.new.table.items c.in-Some.walk.items c.deref-in-Some.result.now c.deref-in-Some.ensures.value found.0 c.shift_along.ensures

pub returns-in-Some-clause-ready : goal.returns-in-Some-clause-ready
returns-in-Some-clause-ready c =
    let found = rw c.in-Some.is at c.in_ok-walk.ensures.walk in
    record {
      fits = subst (λ n. IsRoom n c.seek.new.self) (ap length c.deref.ensures.value ∙ sym c.shift_along.ensures.long) c.in_ok-walk.ensures.room;
      shut = shut_moves c.args.rows.now c.args.matched.now.items c.deref.result.now c.args.element c.deref.ensures.value _ c.requires.ready.shut
          c.shift_along.new.table.items c.in-Some.walk.items c.deref-in-Some.result.now c.deref-in-Some.ensures.value found.0 c.shift_along.ensures _ found.1;
    }

pub returns-in-None-clause-matched : goal.returns-in-None-clause-matched
returns-in-None-clause-matched c =
    let found = rw c.in-None.is at c.in_ok-walk.ensures.walk in
    stuck_ends c.args.rows.now c.args.matched.now.items c.deref.result.now c.args.element c.deref.ensures.value _ c.requires.ready.shut _ found.0

pub returns-in-None-clause-ready : goal.returns-in-None-clause-ready
returns-in-None-clause-ready c =
    let found = rw c.in-None.is at c.in_ok-walk.ensures.walk in
    record {
      fits = subst (λ b. IsRoom (length b) c.seek.new.self) c.deref.ensures.value c.in_ok-walk.ensures.room;
      shut = shut_ends c.args.rows.now c.args.matched.now.items c.deref.result.now c.args.element c.deref.ensures.value _ c.requires.ready.shut _ found.0;
    }

pub shift_along-requires-clause-differ : goal.shift_along-requires-clause-differ
shift_along-requires-clause-differ c =
    let found = rw c.in-Some.is at c.in_ok-walk.ensures.walk in
    subst (λ w. (i j : ℕ) → i < j → j < length w → get_or w i 0 ≢ get_or w j 0) (sym c.deref-in-Some.ensures.value) found.0.differ
