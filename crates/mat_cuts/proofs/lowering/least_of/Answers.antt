use Rattle.mat_cuts.proofs.Common.{◌+◌, sym, subst, arith, ints, below_member, AllBelow-at}
use Rattle.mat_cuts.proofs.Loops.{IsLeastSoFar, IsLeastSoFar-better, IsLeastSoFar-end, IsLeastSoFar-keep}
use Rattle.mat_cuts.proofs.lowering.least_of.Goals as goal
use Rattle.mat_cuts.proofs.lowering.least_of.Goals.{then-reduced-a, else-reduced-a}

pub bounds-reduced-a : goal.bounds-reduced-a
bounds-reduced-a c = AllBelow-at _ c.args.arcs.now c.loop-a.a-index c.requires.below c.loop-a-test.true

pub bounds-reduced-best : goal.bounds-reduced-best
bounds-reduced-best c = below_member c.requires c.loop-a.invariant.member

pub loop-a-preserved : goal.loop-a-preserved
loop-a-preserved c =
    let arcs = c.args.arcs.now in
    let reduced = c.args.reduced.now in
    let i = c.loop-a.a-index in
    elim c.if-reduced-a.branch [
      | then-reduced-a w ↦ subst (IsLeastSoFar arcs reduced (i + 1)) (sym w.best-is)
          (IsLeastSoFar-better arcs reduced i c.loop-a.best c.loop-a-test.true (let less = w.if-reduced-a.true in grind (arith, ints)) c.loop-a.invariant)
      | else-reduced-a w ↦ subst (IsLeastSoFar arcs reduced (i + 1)) (sym w.best-is)
          (IsLeastSoFar-keep arcs reduced i c.loop-a.best c.loop-a-test.true (let more = w.if-reduced-a.false in grind (arith, ints)) c.loop-a.invariant)
    ]

pub returns : goal.returns
returns c = IsLeastSoFar-end c.args.arcs.now c.args.reduced.now c.loop-a.a-index c.loop-a.best (let past = c.loop-a-test.false in omega arith) c.loop-a.invariant
