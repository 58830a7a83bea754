-- The run over the whole order is traced: an element is in it exactly where the set so far can take it. So the sets along the order are those of the
-- greedy algorithm, one more at each element that is taken.
use Rattle.mat_greedy.proofs.Common.{◌≡◌, ℕ, ◌+◌, List, get_or, ◌++◌, [], ◌∷◌, if◌then◌else◌, refl, subst, sym, ap, ◌∙◌, is_member, with_one, AreDistinct, weight_at, grown_along, IsTracing-start, IsTracing-next, traced, IsFallingOrder, AreHeaviestEach}
use Rattle.mat_greedy.proofs.OrderLemmas.{IsFallingOrder-below}
use Rattle.mat_greedy.proofs.Climbing.{IsClimbingAndTracing, IsClimbing-start, IsClimbing-next, IsClimbing-end}
use Rattle.mat_greedy.proofs.greedy.heaviest_each.Goals as goal
use Rattle.mat_greedy.proofs.greedy.heaviest_each.Goals.{then-contains+in_ok-add+in_ok-copy-2+in_ok-push-2, else-contains}

pub run-requires-clause-below : goal.run-requires-clause-below
run-requires-clause-below g c = rw (c.deref.ensures.value, sym c.requires.lengths) (IsFallingOrder-below _ _ c.in_ok-order.ensures)

pub run-requires-clause-distinct : goal.run-requires-clause-distinct
run-requires-clause-distinct g c = rw c.deref.ensures.value c.in_ok-order.ensures.distinct

pub loop-x-init : goal.loop-x-init
loop-x-init g c =
    let p = g.M.Matroid.indep c.args.m.now in
    let order = c.deref-x-items.result.now in
    let distinct : AreDistinct order = subst AreDistinct (sym c.deref-x-items.ensures.value) c.in_ok-order.ensures.distinct in
    rw (c.new-set.ensures.members, c.in_ok-push.ensures.items, c.new-sets.ensures.items, c.in_ok-copy.ensures.equal, c.new-set.ensures.members)
    (record {
      climbing = IsClimbing-start c.lawful.ensures (weight_at c.args.weights.now) order;
      tracing = IsTracing-start p order c.lawful.ensures.empty distinct;
    })

pub loop-x-preserved : goal.loop-x-preserved
loop-x-preserved g c =
    let p = g.M.Matroid.indep c.args.m.now in
    let laws = c.lawful.ensures in
    let weights = c.args.weights.now in
    let order = c.deref-x-items.result.now in
    let falling : IsFallingOrder weights order = subst (IsFallingOrder weights) (sym c.deref-x-items.ensures.value) c.in_ok-order.ensures in
    let same : c.deref.result.now ≡ order = c.deref.ensures.value ∙ sym c.deref-x-items.ensures.value in
    let x = get_or order c.loop-x.x-index 0 in
    let set = c.loop-x.set in
    let found = c.contains.ensures.found in
    let told = ap (is_member x) (c.in_ok-all.ensures ∙ ap (grown_along p []) same)
    ∙ traced laws order set c.loop-x.x-index x c.loop-x-test.true refl c.loop-x.invariant.tracing in
    let next : (set' : List ℕ) (sets' : List (List ℕ)) → set' ≡ (if is_member x c.in_ok-all.all then with_one set x else set)
    → sets' ≡ (if is_member x c.in_ok-all.all then c.loop-x.sets.items ++ set' ∷ [] else c.loop-x.sets.items)
    → IsClimbingAndTracing p (weight_at weights) order (c.loop-x.x-index + 1) set' sets' =
    λ set' sets' set_is sets_is. record {
      climbing = IsClimbing-next laws weights order set c.loop-x.sets.items c.loop-x.x-index x (sym c.requires.lengths) falling
          c.loop-x-test.true refl c.loop-x.invariant.climbing _ set' sets' told set_is sets_is;
      tracing = IsTracing-next laws order set c.loop-x.x-index x c.loop-x-test.true refl c.loop-x.invariant.tracing _ set' told set_is;
    } in
    elim c.if-contains.branch [
      | then-contains+in_ok-add+in_ok-copy-2+in_ok-push-2 w ↦
          let here = sym found ∙ w.if-contains.true in
          rw (w.set-is, w.sets-is) (next _ _
          (w.in_ok-add.ensures.ok.1 ∙ sym (ap (λ b. if b then with_one set x else set) here))
          (w.in_ok-push-2.ensures.items ∙ ap (λ s. c.loop-x.sets.items ++ s ∷ []) w.in_ok-copy-2.ensures.equal
          ∙ sym (ap (λ b. if b then c.loop-x.sets.items ++ w.add.new.self ∷ [] else c.loop-x.sets.items) here)))
      | else-contains w ↦
          let out = sym found ∙ w.if-contains.false in
          rw (w.set-is, w.sets-is) (next _ _ (sym (ap (λ b. if b then with_one set x else set) out))
          (sym (ap (λ b. if b then c.loop-x.sets.items ++ set ∷ [] else c.loop-x.sets.items) out)))
    ]

pub returns : goal.returns
returns g c =
    let weights = c.args.weights.now in
    let order = c.deref-x-items.result.now in
    let falling : IsFallingOrder weights order = subst (IsFallingOrder weights) (sym c.deref-x-items.ensures.value) c.in_ok-order.ensures in
    subst (AreHeaviestEach _ _ _) (sym c.new.ensures.items)
    (IsClimbing-end c.lawful.ensures weights order _ _ _ (sym c.requires.lengths) falling c.loop-x-test.false c.loop-x.invariant.climbing)
