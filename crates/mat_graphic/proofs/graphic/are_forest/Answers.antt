-- The table has the components of the edges so far, from the last to the first; an edge within a component closes a circuit.
use Rattle.mat_graphic.proofs.Common.{◌≡◌, ◌-◌, length, drop, sym, subst, arith, ends_of, AllBelow-at, IsForest, least_merged, test_from-IsForest, IsParentTable}
use Rattle.mat_graphic.proofs.Uniting.{table_none, forest_none, edge_before, forest_more, not_forest}
use Rattle.mat_graphic.proofs.graphic.are_forest.Goals as goal

pub loop-i-init : goal.loop-i-init
loop-i-init c = record {
  descending = c.requires.descending;
  united = table_none (ends_of c.args.edges.now) c.args.set.now c.args.parent.now c.len-i.result c.len-i.ensures.count c.requires.single;
  forest = forest_none (ends_of c.args.edges.now) c.args.set.now c.len-i.result c.len-i.ensures.count;
}

pub unite_ends-requires-clause-below : goal.unite_ends-requires-clause-below
unite_ends-requires-clause-below c =
    let below = AllBelow-at (length c.args.edges.now) c.args.set.now (c.loop-i.i - 1) c.requires.below
    (omega (arith, c.len-i.ensures.count, c.loop-i-test.true, c.loop-i.auto.i)) in
    omega (arith, c.get.ensures.item)

pub loop-i-preserved : goal.loop-i-preserved
loop-i-preserved c =
    let ends = ends_of c.args.edges.now in
    let X = c.args.set.now in
    let e = c.get.result in
    let before = edge_before ends X (c.loop-i.i - 1) c.loop-i.i e (omega (arith, c.loop-i-test.true))
    (omega (arith, c.len-i.ensures.count, c.loop-i.auto.i)) c.get.ensures.item in
    record {
      descending = c.unite_ends.ensures.descending;
      united = subst (λ Y. IsParentTable (least_merged ends Y) c.unite_ends.new.parent) (sym before)
          (c.unite_ends.ensures.united (drop c.loop-i.i X) c.loop-i.invariant.united);
      forest = forest_more ends X (c.loop-i.i - 1) c.loop-i.i e c.unite_ends.result before
          (c.unite_ends.ensures.apart (drop c.loop-i.i X) c.loop-i.invariant.united) c.if-not-unite_ends.false c.loop-i.invariant.forest;
    }

pub returns-then-not-unite_ends-clause-answer : goal.returns-then-not-unite_ends-clause-answer
returns-then-not-unite_ends-clause-answer c =
    let ends = ends_of c.args.edges.now in
    let X = c.args.set.now in
    let before = edge_before ends X (c.loop-i.i - 1) c.loop-i.i c.get.result (omega (arith, c.loop-i-test.true))
    (omega (arith, c.len-i.ensures.count, c.loop-i.auto.i)) c.get.ensures.item in
    not_forest ends X (c.loop-i.i - 1) c.loop-i.i c.get.result c.unite_ends.result before
    (c.unite_ends.ensures.apart (drop c.loop-i.i X) c.loop-i.invariant.united) c.get.ensures.rises c.if-not-unite_ends.true

pub returns-clause-answer : goal.returns-clause-answer
returns-clause-answer c =
    let ends = ends_of c.args.edges.now in
    let X = c.args.set.now in
    let start : c.loop-i.i ≡ 0 = omega (arith, c.loop-i-test.false) in
    sym (test_from-IsForest ends X (subst (λ k. IsForest ends (drop k X)) start c.loop-i.invariant.forest))
