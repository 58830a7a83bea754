-- The vertices of other trees are copied in their order, so that one before a vertex is copied before it; those of the hung tree are passed over.
use Rattle.mat_graphic.proofs.Common.{◌<◌, false, length, get_or, sym, ap, ◌∙◌, arith, AllBelow-at}
use Rattle.mat_graphic.proofs.HungTrees.{child_findable, root_findable, IsCopied-passed, IsCopied-visited}
use Rattle.mat_graphic.proofs.TrailScans.{item_of}
use Rattle.mat_graphic.proofs.hanging.copy_outside.Goals as goal
use Rattle.mat_graphic.proofs.hanging.copy_outside.Goals.{then-not-inside-at+then-before-at+in_ok-visit, then-not-inside-at+else-before-at+in_ok-visit-2, else-not-inside-at}

pub visit-requires-clause-below : goal.visit-requires-clause-below
visit-requires-clause-below c =
    let forest = c.args.forest.now in
    let at = c.loop-at.at in
    let small : at < length forest.order.items =
    (let end = c.len-at-end.ensures in let same = forest.order.ok.0 in let test = c.loop-at-test.true in omega arith) in
    let here = item_of forest.order.items at c.index-vertex.result.now small c.index-vertex.ensures in
    let below = AllBelow-at (length forest.place.items) forest.order.items at c.requires.order.below small in
    let long = c.loop-at.invariant.long in
    omega arith

pub visit-requires-else-before-at-clause-below : goal.visit-requires-else-before-at-clause-below
visit-requires-else-before-at-clause-below c =
    let forest = c.args.forest.now in
    let at = c.loop-at.at in
    let small : at < length forest.order.items =
    (let end = c.len-at-end.ensures in let same = forest.order.ok.0 in let test = c.loop-at-test.true in omega arith) in
    let here = item_of forest.order.items at c.index-vertex.result.now small c.index-vertex.ensures in
    let below = AllBelow-at (length forest.place.items) forest.order.items at c.requires.order.below small in
    let long = c.loop-at.invariant.long in
    omega arith

pub loop-at-preserved : goal.loop-at-preserved
loop-at-preserved c =
    let forest = c.args.forest.now in
    let inside = c.args.inside.now in
    let o = c.requires.order in
    let at = c.loop-at.at in
    let old = c.loop-at.new in
    let h = c.loop-at.invariant in
    let small : at < length forest.order.items =
    (let end = c.len-at-end.ensures in let same = forest.order.ok.0 in let test = c.loop-at-test.true in omega arith) in
    let long : at < length forest.before.items = (let same = o.before_long in omega arith) in
    elim c.if-not-inside-at.branch [
      | then-not-inside-at+then-before-at+in_ok-visit w ↦
          let here = sym (item_of forest.order.items at w.index-vertex.result.now small w.index-vertex.ensures) in
          let own = item_of forest.before.items at w.index-before.result.now long w.index-before.ensures ∙ w.if-before-at.true in
          let visited = w.in_ok-visit.ensures in
          rw w.new-is (IsCopied-visited forest old w.visit.new.forest inside at w.index-vertex.result.now 0 w.len-last.result h w.if-not-inside-at.true here
          visited.long visited.order visited.found visited.only visited.front visited.tree
          (root_findable forest old w.visit.new.forest inside at w.index-vertex.result.now 0 w.len-last.result h w.if-not-inside-at.true here
          (w.len-last.ensures ∙ old.order.ok.0) small own))
      | then-not-inside-at+else-before-at+in_ok-visit-2 w ↦
          let here = sym (item_of forest.order.items at w.index-vertex.result.now small w.index-vertex.ensures) in
          let up = item_of forest.before.items at w.index-before.result.now long w.index-before.ensures in
          let low = o.earlier at small in
          let down : get_or forest.before.items at 0 < at = omega (arith, low, up, w.if-before-at.false) in
          let there = w.place_of-below.ensures.here
          ∙ sym (item_of forest.order.items w.index-before.result.now w.index.result.now (omega (arith, down, up, small)) w.index.ensures)
          ∙ ap (λ i. get_or forest.order.items i 0) (sym up) in
          let through = sym (item_of forest.through.items at w.index-else-before-at.result.now (let same = o.through_long in omega arith) w.index-else-before-at.ensures) in
          let visited = w.in_ok-visit-2.ensures in
          rw w.new-is (IsCopied-visited forest old w.visit-else-before-at.new.forest inside at w.index-vertex.result.now w.index-else-before-at.result.now
          w.place_of-below.result h w.if-not-inside-at.true here visited.long visited.order visited.found visited.only visited.front visited.tree
          (child_findable forest old w.visit-else-before-at.new.forest inside at w.index-vertex.result.now w.index-else-before-at.result.now w.place_of-below.result h
          w.if-not-inside-at.true here small down through w.place_of-below.ensures.inside there))
      | else-not-inside-at w ↦ rw w.new-is (IsCopied-passed forest old inside at w.if-not-inside-at.false h)
    ]
