-- Each matroid that is made of one other has the columns of this one, but for what it leaves out.
use Rattle.mat_any.proofs.Common.{◌&&◌, ◌||◌, ◌<◌, not, ltb, length, map, subst, sym, ap, ◌∙◌, arith, rules, length-map, IfOk-weaker, is_member, AllBelow, row_of, below, IsJoined-gives, AreArcs, AreReached, AreKept, exchanges_with, parts_set, part_at, test_at, AreMatroids, arcs_more, sound_at}
use Rattle.mat_any.proofs.Common.{test_is, elements_in, size_in, test_in, IsSoundOne, KeepsOne, KeepsUnion, the_lemmas, is_independent, tree_laws, tree_of}
use Rattle.mat_laws.specs.Columns.{AreColumns}
use Rattle.mat_minors.proofs.MinorColumns.{contracted_columns, restricted_columns, truncated_columns}
use Rattle.mat_any.proofs.JoinedLaws.{each_lawful}
use Rattle.mat_any.proofs.JoinedMatroids.{joined_at, keeps_of, size_at, test_at_node, union_kept}
use Rattle.mat_any.proofs.columns_at.+turning.Goals as goal

pub truncation_columns-returns : goal.truncation_columns-returns
truncation_columns-returns t c =
    IfOk-weaker c.columns.result _ _
    (λ all told. truncated_columns (tree_laws (tree_of c.args.inner.now) c.requires.sound) c.args._cap c.args.base.now all c.requires.base told)
    c.columns.ensures

pub restriction_columns-returns : goal.restriction_columns-returns
restriction_columns-returns t c =
    restricted_columns (tree_laws (tree_of c.args.inner.now) c.requires.sound) c.args.elements.now c.args.base.now c.in_ok-gone.gone c.in_ok-all.all
    c.remove_from_each.new.self c.requires.base c.in_ok-all.ensures
    (λ x. c.in_ok-gone.ensures x ∙ ap (λ n. ltb x n && not (is_member x c.args.elements.now)) c.size_of.ensures) c.remove_from_each.ensures

pub contraction_columns-columns-requires : goal.contraction_columns-columns-requires
contraction_columns-columns-requires t c =
    let tree = tree_of c.args.inner.now in
    let laws = tree_laws tree c.requires.sound in (
      search rules,
      (
        c.requires.sound,
        (
          ap (is_independent tree) c.requires.joined
              ∙ (IsJoined-gives laws c.args.away.now c.args.chosen.now c.args._base.now c.requires.away.rising c.requires.chosen c.requires.base).joined,
          c.requires.kept,
        ),
      ),
    )

pub contraction_columns-empty_each-requires : goal.contraction_columns-empty_each-requires
contraction_columns-empty_each-requires t c =
    let tree = tree_of c.args.inner.now in
    let chosen = c.args.chosen.now in
    rw c.as_slice.ensures.items (subst (λ n. AllBelow n chosen) (sym (c.remove_from_each.ensures.count ∙ c.in_ok-all.ensures.long))
    (below (tree_laws tree c.requires.sound) chosen c.requires.chosen.passes))

pub contraction_columns-returns : goal.contraction_columns-returns
contraction_columns-returns t c =
    let removed = rw c.in_ok-gone.ensures.members at c.remove_from_each.ensures in
    let emptied = rw c.as_slice.ensures.items at c.in_ok-empty_each.ensures in
    contracted_columns (tree_laws (tree_of c.args.inner.now) c.requires.sound) c.args.away.now c.args.chosen.now c.requires.away c.requires.chosen
    c.args._base.now c.args.joined.now c.in_ok-all.all c.remove_from_each.new.self c.empty_each.new.self c.requires.joined c.requires.base
    c.in_ok-all.ensures removed emptied

pub columns-union_columns-requires : goal.columns-union_columns-requires
columns-union_columns-requires t c =
    let at = c.in-Union-Union in
    let ms = c.deref-in-Union-Union.result.now in
    let same = c.deref-in-Union-Union.ensures.value in
    let m = c.args.matroid.now in
    let base = c.args.base.now in
    let kept = union_kept ms base at.parts at.kept (subst (KeepsUnion ms base) at.is-1 (keeps_of m at.matroids ms at.is-0 same base c.args.kept.now c.requires.kept)) in (
      search (rules, the_lemmas),
      (joined_at m at.matroids ms at.is-0 same c.requires.sound, (kept.0, (kept.1, subst (AreKept KeepsOne ms at.parts) (sym c.deref-in-Union-Union-2.ensures.value) kept.2))),
    )

pub columns-returns-in-Union-Union : goal.columns-returns-in-Union-Union
columns-returns-in-Union-Union t c =
    let at = c.in-Union-Union in
    let ms = c.deref-in-Union-Union.result.now in
    let same = c.deref-in-Union-Union.ensures.value in
    let m = c.args.matroid.now in
    let base = c.args.base.now in
    IfOk-weaker c.union_columns.result _ _
    (λ columns told. subst (λ k. AreColumns k (is_independent (tree_of m)) base columns) (sym (size_at m at.matroids ms at.is-0 same))
    (subst (λ p. AreColumns (size_in ms) p base columns) (sym (test_at_node m at.matroids ms at.is-0 same)) told)) c.union_columns.ensures

pub arcs_of-loop-i-preserved : goal.arcs_of-loop-i-preserved
arcs_of-loop-i-preserved t c =
    let ms = c.args.matroids.now in
    let n = c.args.n in
    let tests = map test_in ms in
    let parts = c.args.parts.now in
    let i = c.loop-i.i in
    let m = c.index-matroids-i.result in
    let part = c.get-part.result.now in
    let own = c.in_ok-own.own in
    let arcs = c.loop-i.arcs in
    let laws = subst (λ k. AreMatroids k tests) (sym c.requires.size) (each_lawful ms c.requires.joined) in
    let test = test_is test_in ms i m c.loop-i-test.true c.index-matroids-i.is in
    let same = c.get-part.ensures.item in
    let size = (sound_at elements_in IsSoundOne (size_in ms) ms c.requires.joined.each i m c.loop-i-test.true c.index-matroids-i.is).1 ∙ sym c.requires.size in
    let l : i < length tests = (let e = length-map ms test_in in omega (arith, e, c.loop-i-test.true)) in
    arcs_more tests parts i arcs (record { into = c.add.new.self.into; entering = c.enter_each.new.entering }) own (laws.each i l) c.loop-i.invariant
    (subst (λ p. AreColumns n p (part_at parts i) own) (sym test) (subst (λ P. AreColumns n (test_in m) P own) same
    (subst (λ k. AreColumns k (test_in m) part own) size c.in_ok-own.ensures)))
    c.in_ok-add.ensures.into
    (λ x. c.in_ok-enter_each.ensures x ∙ ap (λ s. is_member x s || (row_of (test_in m) part x).addable) c.in_ok-add.ensures.entering
    ∙ ap (λ p. is_member x arcs.entering || (row_of p part x).addable) (sym test)
    ∙ ap (λ P. is_member x arcs.entering || (row_of (test_at tests i) P x).addable) same)

pub union_columns-follow-requires : goal.union_columns-follow-requires
union_columns-follow-requires t c =
    let ms = c.args.matroids.now in
    let base = subst (AllBelow (size_in ms)) c.requires.together (parts_set (each_lawful ms c.requires.joined) c.requires.parts).below in
    rw c.as_slice.ensures.items
    (subst (λ k. AllBelow k c.args.base.now) (sym (c.in_ok-arcs.ensures.count ∙ c.common_size_of-n.ensures)) base)

pub union_columns-columns-requires-clause-few : goal.union_columns-columns-requires-clause-few
union_columns-columns-requires-clause-few t c =
    let reached = c.in_ok-follow.ensures c.common_size_of-n.result _ _ c.in_ok-arcs.ensures in
    omega (arith, reached.count, c.common_size_of-n.type_inv)

pub union_columns-columns-requires-clause-below : goal.union_columns-columns-requires-clause-below
union_columns-columns-requires-clause-below t c =
    let ms = c.args.matroids.now in
    let reached = c.in_ok-follow.ensures c.common_size_of-n.result _ _ c.in_ok-arcs.ensures in
    subst (λ k. AllBelow k c.args.base.now) (sym (reached.count ∙ c.common_size_of-n.ensures))
    (subst (AllBelow (size_in ms)) c.requires.together (parts_set (each_lawful ms c.requires.joined) c.requires.parts).below)

pub union_columns-returns : goal.union_columns-returns
union_columns-returns t c =
    let ms = c.args.matroids.now in
    let n = size_in ms in
    let tests = map test_in ms in
    let parts = c.args.parts.now in
    let arcs = subst (λ k. AreArcs k (length parts) (exchanges_with tests parts) c.in_ok-arcs.arcs) c.common_size_of-n.ensures c.in_ok-arcs.ensures in
    let reached = c.in_ok-follow.ensures n (length parts) (exchanges_with tests parts) arcs in
    IfOk-weaker c.columns.result _ _
    (λ columns told. told n tests parts (each_lawful ms c.requires.joined) c.requires.parts c.requires.together
    (subst (λ s. AreReached n (length parts) (exchanges_with tests parts) s c.follow.new.self) c.as_slice.ensures.items reached)) c.columns.ensures
