use Rattle.mat_flow.proofs.Common.{◌+◌, ◌∙◌, length, subst, sym, AllBelow-at, ends_of}
use Rattle.mat_flow.proofs.ArcFlows.{IsLeaving, IsLeaving-cut, IsLeaving-skip, IsLeaving-start}
use Rattle.mat_flow.proofs.LinkTables.{none_from}
use Rattle.mat_flow.proofs.arc_flow.left_out.Goals as goal
use Rattle.mat_flow.proofs.arc_flow.left_out.Goals.{in-Some, in_default}

pub loop-a-init : goal.loop-a-init
loop-a-init c =
    subst (IsLeaving c.args.vertices (ends_of c.args.arcs.now) c.args.from c.args.before.now c.args.reached.now 0) (sym c.take_out.ensures.items)
    (IsLeaving-start c.args.vertices (ends_of c.args.arcs.now) c.args.from c.args.before.now c.args.reached.now c.in_ok-cut.cut
    c.in_ok-cut.ensures.members c.in_ok-cut.ensures.set)

pub bounds : goal.bounds
bounds c = AllBelow-at (length c.args.before.now) c.args.reached.now c.loop-a.a-index c.requires.inside c.loop-a-test.true

pub loop-a-preserved : goal.loop-a-preserved
loop-a-preserved c =
    let vertices = c.args.vertices in
    let ends = ends_of c.args.arcs.now in
    let from = c.args.from in
    let before = c.args.before.now in
    let reached = c.args.reached.now in
    let i = c.loop-a.a-index in
    let l = c.loop-a-test.true in
    elim c.match-before-a.branch [
      | in-Some w ↦ subst (IsLeaving vertices ends from before reached (i + 1)) (sym (w.cut-is ∙ w.take_out-in-Some.ensures.items))
          (IsLeaving-cut vertices ends from before reached i w.in-Some.u c.loop-a.cut l w.in-Some.is c.loop-a.invariant)
      | in_default w ↦ subst (IsLeaving vertices ends from before reached (i + 1)) (sym w.cut-is)
          (IsLeaving-skip vertices ends from before reached i c.loop-a.cut l (none_from _ w.in_default.not-Some) c.loop-a.invariant)
    ]
