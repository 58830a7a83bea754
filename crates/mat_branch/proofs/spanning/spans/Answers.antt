use Rattle.mat_branch.proofs.Common.{length, arith, ends_of}
use Rattle.mat_branch.proofs.SpanningTests.{told_cut, told_entered}
use Rattle.mat_branch.proofs.spanning.spans.Goals as goal
use Rattle.mat_branch.proofs.spanning.spans.Goals.{in-Some, in-None}

pub returns : goal.returns
returns c =
    let vertices = c.args.graph.now.vertices in
    let arcs = c.args.graph.now.arcs in
    let tree = c.args.tree.now in
    elim c.match-branch-2.branch [
      | in-Some w ↦ rw w.result-is
          (told_cut vertices (length arcs) c.args.root (ends_of arcs) tree w.in-Some.field-0 (rw w.in-Some.is at c.in_ok-seldom_entered.ensures))
      | in-None w ↦ rw w.result-is
          (told_entered vertices (length arcs) c.args.root (ends_of arcs) tree
          (omega (arith, c.if-len-vertices.false, c.len.ensures.count, c.vertices.ensures.count, c.requires.root))
          (rw w.in-None.is at c.in_ok-seldom_entered.ensures))
    ]
