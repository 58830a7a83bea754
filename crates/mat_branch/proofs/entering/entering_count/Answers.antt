use Rattle.mat_branch.proofs.Common.{◌≡◌, ◌+◌, ◌∙◌, ◌&&◌, not, length, ap, subst, sym, arith, ends_of, enters, is_member, IsCounted, IsCounted-few, IsCounted-put, IsCounted-skip, IsCounted-start}
use Rattle.mat_branch.proofs.EnteringCounts.{IsCounted-entering}
use Rattle.mat_branch.proofs.entering.entering_count.Goals as goal
use Rattle.mat_branch.proofs.entering.entering_count.Goals.{then-comes_in, else-comes_in}

pub loop-a-init : goal.loop-a-init
loop-a-init c = IsCounted-start (enters (ends_of c.args.arcs.now) c.args.cut.now)

pub overflow_add-count : goal.overflow_add-count
overflow_add-count c =
    omega (arith, IsCounted-few (enters (ends_of c.args.arcs.now) c.args.cut.now) c.loop-a.a c.loop-a.count c.loop-a.invariant, c.loop-a-test.true)

pub loop-a-preserved : goal.loop-a-preserved
loop-a-preserved c =
    let ends = ends_of c.args.arcs.now in
    let cut = c.args.cut.now in
    let a = c.loop-a.a in
    let same = ap (λ p. is_member p.1 cut && not (is_member p.0 cut)) (sym c.get-tail.ensures) ∙ sym c.comes_in.ensures in
    elim c.if-comes_in.branch [
      | then-comes_in w ↦ subst (IsCounted (enters ends cut) (a + 1)) (sym w.count-is)
          (IsCounted-put (enters ends cut) a c.loop-a.count (same ∙ w.if-comes_in.true) c.loop-a.invariant)
      | else-comes_in w ↦ subst (IsCounted (enters ends cut) (a + 1)) (sym w.count-is)
          (IsCounted-skip (enters ends cut) a c.loop-a.count (same ∙ w.if-comes_in.false) c.loop-a.invariant)
    ]

pub returns : goal.returns
returns c =
    let arcs = c.args.arcs.now in
    let cut = c.args.cut.now in
    let all : c.loop-a.a ≡ length arcs = omega (arith, c.loop-a-test.false, c.loop-a.auto.a-end, c.len-a-end.ensures) in
    IsCounted-entering (ends_of arcs) cut (length arcs) c.loop-a.count (subst (λ n. IsCounted (enters (ends_of arcs) cut) n c.loop-a.count) all c.loop-a.invariant)
