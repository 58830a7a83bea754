use Rattle.mat_graphic.proofs.Common.{◌≡◌, ◌<◌, ◌∙◌, length, subst, arith}
use Rattle.mat_graphic.proofs.Roots.{component_at, same-before}
use Rattle.mat_graphic.proofs.TrailScans.{item_of}
use Rattle.mat_graphic.proofs.rooted_forest.root_above.Goals as goal

pub loop-at-preserved : goal.loop-at-preserved
loop-at-preserved c =
    let forest = c.args.forest.now in
    let o = c.requires.order in
    let at = c.loop-at.at in
    let inside = c.loop-at.invariant.inside in
    let long : at < length forest.before.items = omega (arith, o.before_long, inside) in
    let asked = item_of forest.before.items at c.index.result.now long c.index.ensures in
    let up = item_of forest.before.items at c.index-at.result.now long c.index-at.ensures in
    let low = o.earlier at inside in
    record {
      inside = omega (arith, low, up, inside);
      same = λ ends X t. subst (λ k. component_at ends X forest.order.items k ≡ component_at ends X forest.order.items at) up
          (same-before ends X _ _ _ t at inside (omega (arith, low, asked, c.loop-at-test.true)))
          ∙ c.loop-at.invariant.same ends X t;
    }

pub loop-at-smaller : goal.loop-at-smaller
loop-at-smaller c =
    let forest = c.args.forest.now in
    let at = c.loop-at.at in
    let inside = c.loop-at.invariant.inside in
    let long : at < length forest.before.items = omega (arith, c.requires.order.before_long, inside) in
    let asked = item_of forest.before.items at c.index.result.now long c.index.ensures in
    let up = item_of forest.before.items at c.index-at.result.now long c.index-at.ensures in
    omega (arith, c.requires.order.earlier at inside, asked, up, c.loop-at-test.true)

pub returns-clause-root : goal.returns-clause-root
returns-clause-root c =
    let inside = c.loop-at.invariant.inside in
    item_of c.args.forest.now.before.items c.loop-at.at c.index.result.now (omega (arith, c.requires.order.before_long, inside)) c.index.ensures
    ∙ omega (arith, c.loop-at-test.false)
