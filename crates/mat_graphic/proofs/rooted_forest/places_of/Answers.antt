use Rattle.mat_graphic.proofs.Common.{◌-◌, ◌<◌, ◌∙◌, length, get_or, set, Some, refl, subst, arith, length-set, AllBelow-at, ArePlaces}
use Rattle.mat_graphic.proofs.TrailTables.{ArePlaces-more, entry_of}
use Rattle.mat_graphic.proofs.rooted_forest.places_of.Goals as goal

pub index-requires : goal.index-requires
index-requires c =
    let below = AllBelow-at c.args.vertices c.args.list.now (c.loop-i.i - 1) c.requires (omega (arith, c.loop-i-test.true, c.loop-i.auto.i)) in
    omega (arith, c.loop-i.invariant.long, c.loop-i.first.ok)

pub index_mut-requires-in-loop-i : goal.index_mut-requires-in-loop-i
index_mut-requires-in-loop-i c =
    let below = AllBelow-at c.args.vertices c.args.list.now (c.loop-i.i - 1) c.requires (omega (arith, c.loop-i-test.true, c.loop-i.auto.i)) in
    omega (arith, c.loop-i.invariant.long, c.loop-i.first.ok)

pub loop-i-preserved : goal.loop-i-preserved
loop-i-preserved c =
    let j = c.loop-i.i - 1 in
    let list = c.args.list.now in
    let first = c.loop-i.first.items in
    let v = get_or list j 0 in
    let inside : j < length list = omega (arith, c.loop-i-test.true, c.loop-i.auto.i) in
    let small : v < length first = (let below = AllBelow-at c.args.vertices list j c.requires inside in omega (arith, c.loop-i.invariant.long)) in
    let read = entry_of first v c.index.result.now small c.index.ensures in
    record {
      long = length-set first v (Some j) ∙ c.loop-i.invariant.long;
      places = subst (λ e. ArePlaces list j (set first v (Some j)) (set c.loop-i.next.items j e)) read
          (ArePlaces-more list first c.loop-i.next.items c.loop-i.i j v
          (omega (arith, c.loop-i-test.true)) inside refl small c.loop-i.invariant.places);
    }
