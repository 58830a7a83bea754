-- The sum is the weight of the members so far, which by the greedy algorithm are a heaviest set of their size.
use Rattle.mat_greedy.proofs.Common.{◌≡◌, [], refl, sym, ap, ◌∙◌, subst, arith, weight_at, grown_along, IsFallingOrder, AreHeaviestWeights}
use Rattle.mat_greedy.proofs.OrderLemmas.{IsFallingOrder-below}
use Rattle.mat_greedy.proofs.Weighing.{IsSumming-start, IsSumming-stay, IsSumming-more, IsWeighing-end, weighing_few, weights_fit}
use Rattle.mat_greedy.proofs.greedy.heaviest_weights.Goals as goal
use Rattle.mat_greedy.proofs.greedy.heaviest_weights.Goals.{then-contains+in_ok-push, else-contains}

pub run-requires-clause-below : goal.run-requires-clause-below
run-requires-clause-below g c = rw (c.deref.ensures.value, sym c.requires.lengths) (IsFallingOrder-below _ _ c.in_ok-order.ensures)

pub run-requires-clause-distinct : goal.run-requires-clause-distinct
run-requires-clause-distinct g c = rw c.deref.ensures.value c.in_ok-order.ensures.distinct

pub loop-x-init : goal.loop-x-init
loop-x-init g c =
    let weights = c.args.weights.now in
    let order = c.deref-x-items.result.now in
    let falling : IsFallingOrder weights order = subst (IsFallingOrder weights) (sym c.deref-x-items.ensures.value) c.in_ok-order.ensures in
    rw c.in_ok-sums.ensures.items (IsSumming-start c.lawful.ensures weights order falling)

pub add_assign-requires : goal.add_assign-requires
add_assign-requires g c =
    let weights = c.args.weights.now in
    let s = c.loop-x.invariant in
    let few = weighing_few c.lawful.ensures (weight_at weights) _ s.set _ _ c.loop-x.x-index s.weighing in
    weights_fit weights c.requires.small s.set (omega (arith, few, c.requires.few, c.requires.lengths)) c.loop-x.sum s.weighing.weight _

pub loop-x-preserved : goal.loop-x-preserved
loop-x-preserved g c =
    let weights = c.args.weights.now in
    let order = c.deref-x-items.result.now in
    let falling : IsFallingOrder weights order = subst (IsFallingOrder weights) (sym c.deref-x-items.ensures.value) c.in_ok-order.ensures in
    let same : c.deref.result.now ≡ order = c.deref.ensures.value ∙ sym c.deref-x-items.ensures.value in
    let run = c.in_ok-all.ensures.members ∙ c.in_ok-taken.ensures ∙ ap (grown_along (g.M.Matroid.indep c.args.m.now) []) same in
    elim c.if-contains.branch [
      | then-contains+in_ok-push w ↦ rw (w.sum-is, w.sums-is, w.in_ok-push.ensures.items)
          (IsSumming-more c.lawful.ensures weights order c.loop-x.sum c.loop-x.sums.items c.loop-x.x-index _ (sym c.requires.lengths) falling
          c.loop-x-test.true refl c.loop-x.invariant c.in_ok-all.all run (sym c.contains.ensures ∙ w.if-contains.true) _
          w.add_assign.ensures.after)
      | else-contains w ↦ rw (w.sum-is, w.sums-is)
          (IsSumming-stay c.lawful.ensures weights order c.loop-x.sum c.loop-x.sums.items c.loop-x.x-index _ (sym c.requires.lengths) falling
          c.loop-x-test.true refl c.loop-x.invariant c.in_ok-all.all run (sym c.contains.ensures ∙ w.if-contains.false))
    ]

pub returns : goal.returns
returns g c =
    let weights = c.args.weights.now in
    let order = c.deref-x-items.result.now in
    let falling : IsFallingOrder weights order = subst (IsFallingOrder weights) (sym c.deref-x-items.ensures.value) c.in_ok-order.ensures in
    subst (AreHeaviestWeights _ _ _) (sym c.new.ensures)
    (IsWeighing-end c.lawful.ensures weights order _ _ _ _ (sym c.requires.lengths) falling c.loop-x-test.false c.loop-x.invariant.weighing)
