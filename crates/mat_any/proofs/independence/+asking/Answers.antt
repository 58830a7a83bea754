-- A restriction asks only of sets of kept elements, a contraction only of sets that are disjoint from what is contracted, joined with a maximal
-- independent subset of that, and a union runs through the set.
use Rattle.mat_any.proofs.Common.{◌≡◌, subst, sym, ap, ◌∙◌, rules, both_ways, IfOk-weaker, AllBelow, IsSet-union, is_contracted, contracted_apart, union_in, element_count, is_independent, tree_laws, tree_of}
use Rattle.mat_minors.proofs.Joining.{dependent_outside, dependent_where_met, restricted_inside}
use Rattle.mat_any.proofs.JoinedMatroids.{joined_at, size_at, test_at_node}
use Rattle.mat_any.proofs.independence.+asking.Goals as goal

pub independent-returns-then-not-is_subset : goal.independent-returns-then-not-is_subset
independent-returns-then-not-is_subset t c =
    let set = c.args.set.now in
    let outside = dependent_outside (is_independent (tree_of c.in-Restrict.inner.value)) c.in-Restrict.kept set
    (λ inside. both_ways _ c.if-not-is_subset.true (c.is_subset.ensures.inside.1 inside)) in
    sym (ap (λ m. is_independent (tree_of m) set) c.in-Restrict.is ∙ outside)

pub independent-returns-else-not-is_subset : goal.independent-returns-else-not-is_subset
independent-returns-else-not-is_subset t c =
    let set = c.args.set.now in
    let p = is_independent (tree_of c.in-Restrict.inner.value) in
    let same = restricted_inside p c.in-Restrict.kept set (c.is_subset.ensures.inside.0 c.if-not-is_subset.false) in
    let within = ap (λ m. is_independent (tree_of m) set) c.deref-in-Restrict.ensures in
    IfOk-weaker c.independent-in-Restrict.result (λ b. b ≡ is_independent (tree_of c.deref-in-Restrict.result.now) set)
    (λ b. b ≡ is_independent (tree_of c.args.matroid.now) set)
    (λ b told. told ∙ within ∙ same ∙ sym (ap (λ m. is_independent (tree_of m) set) c.in-Restrict.is)) c.independent-in-Restrict.ensures

pub contraction_independent-returns-then-not-is_disjoint : goal.contraction_independent-returns-then-not-is_disjoint
contraction_independent-returns-then-not-is_disjoint t c =
    sym (dependent_where_met _ (is_independent (tree_of c.args.inner.now)) c.args.away.now c.args.set.now c.requires.away.rising
    (λ apart. both_ways _ c.if-not-is_disjoint.true (c.is_disjoint.ensures.apart.1 apart)))

pub contraction_independent-independent-requires : goal.contraction_independent-independent-requires
contraction_independent-independent-requires t c =
    let tree = tree_of c.args.inner.now in
    let laws = tree_laws tree c.requires.sound in
    let chosen = c.in_ok-chosen.chosen in
    let joined = IsSet-union _ c.args.set.now chosen c.requires.below (laws.sets chosen c.in_ok-chosen.ensures.passes) in
    (search rules, (c.requires.sound, subst (AllBelow (element_count tree)) (sym c.in_ok-joined.ensures.members) joined.below))

pub contraction_independent-returns : goal.contraction_independent-returns
contraction_independent-returns t c =
    let tree = tree_of c.args.inner.now in
    let n = element_count tree in
    let p = is_independent tree in
    let away = c.args.away.now in
    let set = c.args.set.now in
    let disjoint = c.is_disjoint.ensures.apart.0 c.if-not-is_disjoint.false in
    let apart = contracted_apart (tree_laws tree c.requires.sound) away _ c.requires.away c.in_ok-chosen.ensures set
    (record { rising = c.is_disjoint.ensures.rises; below = c.requires.below }) disjoint in
    IfOk-weaker c.independent.result (λ b. b ≡ p c.in_ok-joined.joined) (λ b. b ≡ is_contracted n away p set)
    (λ b told. told ∙ ap p c.in_ok-joined.ensures.members ∙ sym apart) c.independent.ensures

pub independent-union_independent-requires-clause-joined : goal.independent-union_independent-requires-clause-joined
independent-union_independent-requires-clause-joined t c =
    joined_at c.args.matroid.now c.in-Union.parts c.deref-in-Union.result.now c.in-Union.is c.deref-in-Union.ensures.value c.requires.sound

pub independent-union_independent-requires-clause-below : goal.independent-union_independent-requires-clause-below
independent-union_independent-requires-clause-below t c =
    subst (λ k. AllBelow k c.args.set.now) (size_at c.args.matroid.now c.in-Union.parts c.deref-in-Union.result.now c.in-Union.is c.deref-in-Union.ensures.value) c.requires.below

pub independent-returns-in-Union : goal.independent-returns-in-Union
independent-returns-in-Union t c =
    let test = test_at_node c.args.matroid.now c.in-Union.parts c.deref-in-Union.result.now c.in-Union.is c.deref-in-Union.ensures.value in
    IfOk-weaker c.union_independent.result (λ b. b ≡ union_in c.deref-in-Union.result.now c.args.set.now)
    (λ b. b ≡ is_independent (tree_of c.args.matroid.now) c.args.set.now)
    (λ b told. told ∙ ap (λ p. p c.args.set.now) (sym test)) c.union_independent.ensures
