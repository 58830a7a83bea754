use Rattle.mat_cuts.proofs.Common.{inl, inr, sym, arith, ends_of, AllBelow-at}
use Rattle.mat_cuts.proofs.Loops.{IsBest-end, IsBest-skip, IsBest-take}
use Rattle.mat_cuts.proofs.growing.earliest.Goals as goal
use Rattle.mat_cuts.proofs.growing.earliest.Goals.{then-time-best+then-leaves, else-time-best, else-time-best-via-then-time-best+else-leaves, else-time-best-via-else-time-best}

pub bounds-since-a : goal.bounds-since-a
bounds-since-a c =
    let below = AllBelow-at _ c.args.timed.now c.loop-a.a-index c.requires.set.below c.loop-a-test.true in
    let long = c.requires.long in
    omega arith

pub leaves-requires : goal.leaves-requires
leaves-requires c = AllBelow-at _ c.args.timed.now c.loop-a.a-index c.requires.set.below c.loop-a-test.true

pub loop-a-preserved : goal.loop-a-preserved
loop-a-preserved c =
    let ends = ends_of c.args.arcs.now in
    let since = c.args.since.now in
    let reached = c.args.reached.now in
    let timed = c.args.timed.now in
    let i = c.loop-a.a-index in
    elim c.if-time-best.branch [
      | then-time-best+then-leaves w ↦ rw (w.best-is, w.found-is)
          (IsBest-take ends since reached timed i c.loop-a.best c.loop-a.found c.loop-a-test.true w.if-time-best.true (sym w.if-leaves.ensures) c.loop-a.invariant)
      | else-time-best w ↦ rw (w.best-is, w.found-is)
          (IsBest-skip ends since reached timed i c.loop-a.best c.loop-a.found c.loop-a-test.true
          (elim w.else-time-best.branch [
            | else-time-best-via-then-time-best+else-leaves w2 ↦ inr (sym w2.if-leaves.ensures)
            | else-time-best-via-else-time-best w2 ↦ inl w2.if-time-best.false
          ])
          c.loop-a.invariant)
    ]

pub returns : goal.returns
returns c = IsBest-end (ends_of c.args.arcs.now) c.args.since.now c.args.reached.now c.args.timed.now c.loop-a.a-index c.loop-a.best c.loop-a.found
    (let past = c.loop-a-test.false in omega arith) c.requires.timed c.loop-a.invariant
