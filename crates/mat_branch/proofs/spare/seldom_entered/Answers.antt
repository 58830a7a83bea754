use Rattle.mat_branch.proofs.Common.{arith, ends_of}
use Rattle.mat_branch.proofs.FlowTests.{AreEntered-served, AreServed-paths, AreServed-root}
use Rattle.mat_branch.proofs.spare.seldom_entered.Goals as goal
use Rattle.mat_branch.proofs.spare.seldom_entered.Goals.{then-v-root+in_ok-cut+in-Paths+in-Paths-1, then-v-root+in_ok-cut+in-Paths+in-Cut-1, else-v-root}

pub loop-v-preserved : goal.loop-v-preserved
loop-v-preserved c =
    let ends = ends_of c.args.graph.now.arcs in
    let live = c.args.live.now in
    let root = c.args.root in
    let k = c.args.k in
    let v = c.loop-v.v in
    elim c.if-v-root.branch [
      | then-v-root+in_ok-cut+in-Paths+in-Paths-1 w ↦
          AreServed-paths ends live root k v w.in-Paths.field-0.items (rw w.in-Paths.is at w.in_ok-cut.ensures.right) c.loop-v.invariant
      | then-v-root+in_ok-cut+in-Paths+in-Cut-1 w ↦
          AreServed-paths ends live root k v w.in-Paths.field-0.items (rw w.in-Paths.is at w.in_ok-cut.ensures.right) c.loop-v.invariant
      | else-v-root w ↦ AreServed-root ends live root k v w.if-v-root.false c.loop-v.invariant
    ]

pub returns : goal.returns
returns c =
    AreEntered-served c.args.graph.now.vertices c.args.root (ends_of c.args.graph.now.arcs) c.args.live.now c.args.k c.loop-v.v
    c.requires.live.rising (omega (arith, c.loop-v-test.false, c.vertices-v-end.ensures.count)) c.loop-v.invariant
