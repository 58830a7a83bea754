-- The vertices that are not found yet are put below those before them, in their old order; the others are passed over.
use Rattle.mat_graphic.proofs.Common.{◌<◌, length, get_or, sym, ap, ◌∙◌, arith, AllBelow-at}
use Rattle.mat_graphic.proofs.HungTrees.{IsHung-passed, IsHung-visited}
use Rattle.mat_graphic.proofs.TrailScans.{item_of}
use Rattle.mat_graphic.proofs.hanging.visit_rest.Goals as goal
use Rattle.mat_graphic.proofs.hanging.visit_rest.Goals.{then-before-at+in_ok-visit, else-before-at}

pub visit-requires-clause-below : goal.visit-requires-clause-below
visit-requires-clause-below c =
    let forest = c.args.forest.now in
    let at = c.loop-at.at in
    let small : at < length forest.order.items =
    (let end = c.len-at-end.ensures in let same = forest.order.ok.0 in let test = c.loop-at-test.true in omega arith) in
    let here = item_of forest.order.items at c.index-then-before-at.result.now small c.index-then-before-at.ensures in
    let below = AllBelow-at (length forest.place.items) forest.order.items at c.requires.order.below small in
    let long = c.loop-at.invariant.long in
    let same = c.requires.vertices in
    omega arith

pub loop-at-preserved : goal.loop-at-preserved
loop-at-preserved c =
    let forest = c.args.forest.now in
    let o = c.requires.order in
    let at = c.loop-at.at in
    let now = c.loop-at.new in
    let h = c.loop-at.invariant in
    let small : at < length forest.order.items =
    (let end = c.len-at-end.ensures in let same = forest.order.ok.0 in let test = c.loop-at-test.true in omega arith) in
    let up = item_of forest.before.items at c.index-before.result.now (let same = o.before_long in omega arith) c.index-before.ensures in
    elim c.if-before-at.branch [
      | then-before-at+in_ok-visit w ↦
          let here = sym (item_of forest.order.items at w.index-then-before-at.result.now small w.index-then-before-at.ensures) in
          let low = o.earlier at small in
          let down : get_or forest.before.items at 0 < at = omega (arith, low, up, w.if-before-at.true) in
          let there = w.place_of-below.ensures.here
          ∙ sym (item_of forest.order.items c.index-before.result.now w.index.result.now (omega (arith, down, up, small)) w.index.ensures)
          ∙ ap (λ i. get_or forest.order.items i 0) (sym up) in
          let through = sym (item_of forest.through.items at w.index-then-before-at-2.result.now (let same = o.through_long in omega arith)
          w.index-then-before-at-2.ensures) in
          let visited = w.in_ok-visit.ensures in
          rw w.new-is (IsHung-visited forest c.args.new.now now w.visit.new.forest at w.index-then-before-at.result.now w.index-then-before-at-2.result.now
          w.place_of-below.result h here through small down w.place_of-below.ensures.inside there visited.long visited.order visited.found visited.front
          visited.tree)
      | else-before-at w ↦ rw w.new-is (IsHung-passed forest c.args.new.now now at (c.requires.roots at small (up ∙ w.if-before-at.false)) h)
    ]
