-- The search from a new root takes each found vertex in turn and finds its neighbours; what was found before stays in front.
use Rattle.mat_graphic.proofs.Common.{◌≡◌, ◌∙◌, length, subst, sym, arith, IsExploring}
use Rattle.mat_graphic.proofs.TrailScans.{IsExploring-root, IsExploring-next, IsFront-member, IsFront-trans, length-order}
use Rattle.mat_graphic.proofs.rooted_forest.explore.Goals as goal

pub visit-requires-clause-order : goal.visit-requires-clause-order
visit-requires-clause-order c = c.requires.exploring.ordered

pub loop-at-init : goal.loop-at-init
loop-at-init c =
    let told = c.in_ok-visit.ensures in
    record {
      exploring = IsExploring-root _ _ _ _ c.args.vertex c.len-at.result _ _ _ _ _ _ _ _ (c.len-at.ensures ∙ c.args.forest.now.order.ok.0)
          (c.requires.firsts_long ∙ sym c.requires.seconds_long) c.requires.exploring told.long told.order told.front told.tree;
      found = told.found;
      front = told.front;
    }

pub scan-requires-clause-order : goal.scan-requires-clause-order
scan-requires-clause-order c = c.loop-at.invariant.exploring.ordered

pub loop-at-smaller : goal.loop-at-smaller
loop-at-smaller c =
    let few = length-order _ _ _ _ c.loop-at.invariant.exploring.ordered in
    omega (arith, c.loop-at.invariant.exploring.long, c.loop-at-test.true, c.len.ensures, c.loop-at.forest.order.ok.0)

pub loop-at-preserved : goal.loop-at-preserved
loop-at-preserved c =
    let first = c.in_ok-scan.ensures in
    let second = c.in_ok-scan-2.ensures in
    let now = c.loop-at.invariant in
    let front = IsFront-trans _ _ _ first.front second.front in
    record {
      exploring = IsExploring-next _ _ _ _ _ _ c.scan.new.forest.place.items _ _ _ _ _ _ _ _ _ _
          (omega (arith, c.loop-at-test.true, c.len.ensures, c.loop-at.forest.order.ok.0)) now.exploring
          (second.long ∙ first.long ∙ now.exploring.long) second.order first.front second.front first.found second.found first.tree second.tree;
      found = IsFront-member _ _ c.args.vertex front now.found;
      front = IsFront-trans _ _ _ now.front front;
    }

pub returns-clause-exploring : goal.returns-clause-exploring
returns-clause-exploring c =
    let now = c.loop-at.invariant.exploring in
    let f = c.loop-at.forest in
    let all : c.loop-at.at ≡ length f.order.items = omega (arith, now.within, c.loop-at-test.false, c.len.ensures, f.order.ok.0) in
    subst (λ n. IsExploring c.args.firsts.now c.args.seconds.now c.args.set.now n (length f.order.items) f.place.items f.order.items f.through.items
    f.before.items) (sym now.long)
    (subst (λ k. IsExploring c.args.firsts.now c.args.seconds.now c.args.set.now (length c.args.forest.now.place.items) k f.place.items f.order.items
    f.through.items f.before.items) all now)
