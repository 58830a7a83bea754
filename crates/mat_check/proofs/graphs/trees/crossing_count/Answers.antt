use Rattle.mat_check.proofs.Common.{◌≡◌, ℕ, ◌+◌, ◌&&◌, ap, length, not, subst, sym, arith, ◌∙◌, ends_of, some_below, is_member, part_at, stays, IsCounted, IsCounted-few, IsCounted-put, IsCounted-skip, IsCounted-start}
use Rattle.mat_check.proofs.graphs.trees.crossing_count.Goals as goal
use Rattle.mat_check.proofs.graphs.trees.crossing_count.Goals.{else-not-is_inside, then-not-is_inside}

pub loop-e-init : goal.loop-e-init
loop-e-init c = IsCounted-start _

pub overflow_add-count : goal.overflow_add-count
overflow_add-count c =
    omega (
      arith,
      IsCounted-few (λ e. not (stays (ends_of c.args.edges.now) c.args.classes.now e)) c.loop-e.e c.loop-e.count c.loop-e.invariant,
      c.loop-e-test.true,
      c.len-e-end.ensures,
      c.requires,
    )

pub loop-e-preserved : goal.loop-e-preserved
loop-e-preserved c =
    let edges = c.args.edges.now in
    let classes = c.args.classes.now in
    let e = c.loop-e.e in
    let test = λ (e : ℕ). not (stays (ends_of edges) classes e) in
    let same : not (stays (ends_of edges) classes e) ≡ not c.is_inside.result =
    ap (λ p. not (some_below (length classes) (λ q. is_member p.0 (part_at classes q) && is_member p.1 (part_at classes q))))
    (sym c.get-first.ensures)
    ∙ ap not (sym c.is_inside.ensures) in
    elim c.if-not-is_inside.branch [
      | then-not-is_inside w ↦ subst (IsCounted test (e + 1)) (sym w.count-is)
          (IsCounted-put test e c.loop-e.count (same ∙ ap not w.if-not-is_inside.true) c.loop-e.invariant)
      | else-not-is_inside w ↦ subst (IsCounted test (e + 1)) (sym w.count-is)
          (IsCounted-skip test e c.loop-e.count (same ∙ ap not w.if-not-is_inside.false) c.loop-e.invariant)
    ]
