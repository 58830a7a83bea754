use Rattle.mat_sets.proofs.Common.{arith, ◌∙◌, ◌≡◌, ◌<◌, length, and_parts}
use Rattle.mat_sets.proofs.Rounds.{AreTaken-more, AreTaken-rest}
use Rattle.mat_sets.proofs.level_search.take_arcs.Goals as goal

pub overflow_add-from : goal.overflow_add-from
overflow_add-from g c =
    let t = c.loop-next.invariant.taken in
    let f = c.in-Some.ensures in
    let below : c.in-Some.next < g.R.Relation.count c.args.relation.now = c.requires.unreached _
    (AreTaken-rest _ _ _ _ _ _ _ _ c.in-Some.next t ((and_parts _ _ f.passes).0)) in
    omega (arith, c.requires.few)

pub loop-next-preserved : goal.loop-next-preserved
loop-next-preserved g c =
    let t = c.loop-next.invariant.taken in
    let f = c.in-Some.ensures in
    let below : c.in-Some.next < g.R.Relation.count c.args.relation.now = c.requires.unreached _
    (AreTaken-rest _ _ _ _ _ _ _ _ c.in-Some.next t ((and_parts _ _ f.passes).0)) in
    let long : length c.loop-next.before.items ≡ g.R.Relation.count c.args.relation.now = t.long ∙ c.requires.long in
    record {
      within = omega arith;
      taken = rw (c.remove.ensures, c.in_ok-push.ensures.items)
          (AreTaken-more _ c.args.u c.loop-next.from c.in-Some.next _ _ _ c.loop-next.unreached c.loop-next.found.items c.loop-next.before.items t f (omega arith));
    }
