-- The sets so far are cuts with weights above 0; one that holds the root, or has no weight, is no cut.
use Rattle.mat_cuts.proofs.Common.{◌<ℤ◌, pos, refl, sym, subst, arith, false≢true, ints, take_all, IsCutInRange, IsWeightedCut, AllByRecursion-at, AllByRecursion-more}
use Rattle.std.specs.List.{AllByRecursion}
use Rattle.mat_cuts.proofs.checking.are_cuts.Goals as goal
use Rattle.mat_cuts.proofs.checking.are_cuts.Goals.{then-cut-le0-via-then-cut-le0, then-cut-le0-via-else-cut-le0+then-not-is_root_free}

pub returns-then-cut-le0 : goal.returns-then-cut-le0
returns-then-cut-le0 c = λ vertices range.
    let cuts = c.args.cuts.now in
    let item = c.cut-item.result in
    let in_range = subst (IsCutInRange vertices) (sym c.cut-item.is)
    (AllByRecursion-at (IsCutInRange vertices) cuts c.loop-cut.cut-index item c.loop-cut-test.true range) in (
      λ right. absurd (false≢true right),
      λ all.
          let one = subst (IsWeightedCut vertices c.args.root) (sym c.cut-item.is)
          (AllByRecursion-at (IsWeightedCut vertices c.args.root) cuts c.loop-cut.cut-index item c.loop-cut-test.true all) in
          elim c.then-cut-le0.branch [
            | then-cut-le0-via-then-cut-le0 w ↦ absurd (let low = w.if-cut-le0.true in let positive = one.positive in omega (arith, ints))
            | then-cut-le0-via-else-cut-le0+then-not-is_root_free w ↦
                (w.if-not-is_root_free.ensures vertices in_range.below).1 one.root_free
          ],
    )

pub loop-cut-preserved : goal.loop-cut-preserved
loop-cut-preserved c = λ vertices range.
    let cuts = c.args.cuts.now in
    let item = c.cut-item.result in
    let in_range = subst (IsCutInRange vertices) (sym c.cut-item.is)
    (AllByRecursion-at (IsCutInRange vertices) cuts c.loop-cut.cut-index item c.loop-cut-test.true range) in
    let positive : pos 0 <ℤ item.weight = (let high = c.if-cut-le0.false in omega (arith, ints)) in
    AllByRecursion-more (IsWeightedCut vertices c.args.root) cuts c.loop-cut.cut-index item c.loop-cut-test.true
    (c.loop-cut.invariant vertices range)
    (subst (IsWeightedCut vertices c.args.root) c.cut-item.is
    (record { root_free = (c.if-not-is_root_free.ensures vertices in_range.below).0 refl; positive = positive }))

pub returns : goal.returns
returns c = λ vertices range. (
  λ right. subst (AllByRecursion (IsWeightedCut vertices c.args.root)) (take_all c.loop-cut.cut-index c.args.cuts.now (let past = c.loop-cut-test.false in omega arith))
      (c.loop-cut.invariant vertices range),
  λ all. refl,
)
