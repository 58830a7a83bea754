-- A search in the residual graph either finds a walk, along which the table moves on to paths with one end more, or spends what it reached; either way
-- what the searches spent still leads to no goal.
use Rattle.mat_flow.proofs.Common.{[], None, Some, subst, sym, arith, IsShifted, IsRoom}
use Rattle.mat_flow.proofs.PushedWalks.{after_below, free_walk, pushed, search_tells, shut_pushed, shut_spent}
use Rattle.mat_flow.proofs.linker.Linker.link.Goals as goal

pub seek-requires-clause-sound : goal.seek-requires-clause-sound
seek-requires-clause-sound c =
    let k = c.requires.paths.1 in
    let is = c.requires.back in
    rw (c.deref.ensures.value, is.same) (
      (let a = k.turned.long in let b = k.table.table.long in omega arith),
      after_below c.args.graph.now.vertices k.before c.args.self.now.after.items k.table.table.long k.turned,
    )

pub seek-requires-clause-room : goal.seek-requires-clause-room
seek-requires-clause-room c = subst (λ n. IsRoom n c.args.self.now.room) (sym c.requires.back.same) c.requires.paths.1.fits

pub shift_along-requires-clause-below : goal.shift_along-requires-clause-below
shift_along-requires-clause-below c =
    let k = c.requires.paths.1 in
    let found = rw c.in-Some.is at c.in_ok-walk.ensures.walk in
    rw c.deref-in-Some.ensures.value (λ i l.
    let small = found.0.walk.below i l in
    let a = k.turned.long in
    let b = k.table.table.long in
    let s = c.requires.back.same in
    omega arith)

pub shift_along-requires-clause-differ : goal.shift_along-requires-clause-differ
shift_along-requires-clause-differ c =
    let found = rw c.in-Some.is at c.in_ok-walk.ensures.walk in
    rw c.deref-in-Some.ensures.value found.0.differ

pub returns-in-Some-clause-ends : goal.returns-in-Some-clause-ends
returns-in-Some-clause-ends c = λ ends k.
    let graph = c.args.graph.now in
    let found = rw c.in-Some.is at c.in_ok-walk.ensures.walk in
    let walk = c.in-Some.walk.items in
    let after = c.args.self.now.after.items in
    let free = free_walk graph.vertices graph.arcs c.args.sources.now after c.deref.result.now c.deref.ensures.value c.args.back.now c.requires.back
    c.args.v _ k.shut walk found.0 in
    let moved = subst (λ w. IsShifted None w after c.shift_along.new.table.items) c.deref-in-Some.ensures.value c.shift_along.ensures in
    let next = pushed graph.vertices graph.arcs c.args.sources.now ends k.before after k.turned k.table c.args.v walk free.walk free.differ
    c.shift_along.new.table.items moved in
    record {
      before = next.0;
      table = next.1;
      turned = next.2;
      fits = subst (λ n. IsRoom n c.seek.new.self) c.requires.back.same c.in_ok-walk.ensures.room;
      shut = shut_pushed graph.vertices graph.arcs c.args.sources.now after c.deref.result.now c.deref.ensures.value c.args.back.now c.requires.back
          c.args.v _ k.shut walk found.0 c.deref-in-Some.result.now c.shift_along.new.table.items c.deref-in-Some.ensures.value c.shift_along.ensures _
          found.1;
    }

pub returns-in-Some-clause-answer : goal.returns-in-Some-clause-answer
returns-in-Some-clause-answer c = λ ends k.
    let graph = c.args.graph.now in
    search_tells graph.vertices graph.arcs c.args.sources.now ends k.before c.args.self.now.after.items k.turned k.table c.requires.sources
    c.vertices.ensures.graph.second c.deref.result.now c.deref.ensures.value c.args.back.now c.requires.back c.args.v _ k.shut _ [] (Some c.in-Some.walk)
    (rw c.in-Some.is at c.in_ok-walk.ensures.walk)

pub returns-in-None-clause-ends : goal.returns-in-None-clause-ends
returns-in-None-clause-ends c = λ ends k.
    let graph = c.args.graph.now in
    let found = rw c.in-None.is at c.in_ok-walk.ensures.walk in
    record {
      before = k.before;
      table = k.table;
      turned = k.turned;
      fits = subst (λ n. IsRoom n c.seek.new.self) c.requires.back.same c.in_ok-walk.ensures.room;
      shut = shut_spent graph.vertices graph.arcs c.args.sources.now c.args.self.now.after.items c.deref.result.now c.deref.ensures.value
          c.args.back.now c.requires.back c.args.v _ k.shut _ found.0;
    }

pub returns-in-None-clause-answer : goal.returns-in-None-clause-answer
returns-in-None-clause-answer c = λ ends k.
    let graph = c.args.graph.now in
    search_tells graph.vertices graph.arcs c.args.sources.now ends k.before c.args.self.now.after.items k.turned k.table c.requires.sources
    c.vertices.ensures.graph.second c.deref.result.now c.deref.ensures.value c.args.back.now c.requires.back c.args.v _ k.shut _ _ None
    (rw c.in-None.is at c.in_ok-walk.ensures.walk)
