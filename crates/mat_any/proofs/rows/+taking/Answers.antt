-- Each matroid that is made of one other takes an element that this one takes, by the law about rows that its minor or dual obeys; a union is
-- asked for its parts.
use Rattle.mat_any.proofs.Common.{◌≡◌, ◌<◌, ◌&&◌, Bool, true, length, ltb, refl, subst, sym, ap, ◌∙◌, rules, arith, and_from, lt-ltb, IfOk-weaker, is_member, minus, union, Exchange, row_of, IsJoined-gives, contracted_row, outside_joined, restricted_row, truncated_row, AreKept, union_in, KeepsOne}
use Rattle.mat_any.proofs.Common.{KeepsUnion, the_lemmas, dual, is_independent, tree_laws, tree_of}
use Rattle.mat_any.proofs.DualNests.{count_within, keeps_within, sound_within, test_within}
use Rattle.mat_any.proofs.JoinedMatroids.{joined_at, keeps_of, size_at, test_at_node, union_kept}
use Rattle.mat_any.proofs.rows.+taking.Goals as goal

pub dual_of_dual_takes-takes_at_once-requires : goal.dual_of_dual_takes-takes_at_once-requires
dual_of_dual_takes-takes_at_once-requires t c =
    let base = c.args.base.now in
    let node = ap tree_of c.in-Dual.is ∙ ap (λ m. dual (tree_of m)) (sym c.deref.ensures) in
    let test = test_within _ _ node c.requires.sound in (
      search (rules, the_lemmas),
      (
        sound_within _ _ node c.requires.sound,
        (
          ap (λ p. p base) (sym test) ∙ c.requires.base,
          (keeps_within _ _ node base c.args.kept.now c.requires.kept, (subst (λ k. c.args.x < k) (count_within _ _ node) c.requires.below, c.requires.outside)),
        ),
      ),
    )

pub dual_of_dual_takes-returns-in-Dual : goal.dual_of_dual_takes-returns-in-Dual
dual_of_dual_takes-returns-in-Dual t c =
    let base = c.args.base.now in
    let x = c.args.x in
    let node = ap tree_of c.in-Dual.is ∙ ap (λ m. dual (tree_of m)) (sym c.deref.ensures) in
    let test = test_within _ _ node c.requires.sound in
    IfOk-weaker c.takes_at_once.result _ _ (λ (added : Bool) told yes. ap (λ p. (row_of p base x).addable) test ∙ told yes) c.takes_at_once.ensures

pub truncation_takes-returns : goal.truncation_takes-returns
truncation_takes-returns t c =
    let base = c.args.base.now in
    let cap = c.args.cap in
    let inner = row_of (is_independent (tree_of c.args.inner.now)) base c.args.x in
    let row : Exchange = record { addable = inner.addable && ltb (length base) cap; with = inner.with } in
    let same = truncated_row (tree_laws (tree_of c.args.inner.now) c.requires.sound) cap base c.args.x inner row c.requires.base c.requires.outside
    refl refl refl in
    let room = lt-ltb (length base) cap (let below = c.if-len-cap.false in let count = c.len.ensures.count in omega arith) in
    IfOk-weaker c.takes_at_once.result _ _
    (λ (added : Bool) told yes. sym (ap (λ (e : Exchange). e.addable) same) ∙ and_from inner.addable (ltb (length base) cap) (told yes) room)
    c.takes_at_once.ensures

pub restriction_takes-returns : goal.restriction_takes-returns
restriction_takes-returns t c =
    let base = c.args.base.now in
    let inner = row_of (is_independent (tree_of c.args.inner.now)) base c.args.x in
    let same = restricted_row (tree_laws (tree_of c.args.inner.now) c.requires.sound) c.args.elements.now base c.args.x inner c.requires.base
    c.requires.outside (sym c.contains.ensures.found ∙ c.if-not-contains.false) refl in
    IfOk-weaker c.takes_at_once.result _ _ (λ (added : Bool) told yes. sym (ap (λ (e : Exchange). e.addable) same) ∙ told yes) c.takes_at_once.ensures

pub contraction_takes-takes_at_once-requires : goal.contraction_takes-takes_at_once-requires
contraction_takes-takes_at_once-requires t c =
    let tree = tree_of c.args.inner.now in
    let laws = tree_laws tree c.requires.sound in
    let away = c.args.away.now in
    let chosen = c.args._chosen.now in
    let base = c.args._base.now in (
      search rules,
      (
        c.requires.sound,
        (
          ap (is_independent tree) c.requires.joined
              ∙ (IsJoined-gives laws away chosen base c.requires.away.rising c.requires.chosen c.requires.base).joined,
          (
            c.requires.kept,
            (
              c.requires.below,
              ap (is_member c.args.x) c.requires.joined
                  ∙ outside_joined laws away chosen c.requires.away c.requires.chosen base c.args.x c.requires.outside
                  (sym c.contains.ensures.found ∙ c.if-contains.false),
            ),
          ),
        ),
      ),
    )

pub contraction_takes-returns : goal.contraction_takes-returns
contraction_takes-returns t c =
    let tree = tree_of c.args.inner.now in
    let base = c.args._base.now in
    let chosen = c.args._chosen.now in
    let inner = row_of (is_independent tree) (union base chosen) c.args.x in
    let row : Exchange = record { addable = inner.addable; with = minus inner.with chosen } in
    let same = contracted_row (tree_laws tree c.requires.sound) c.args.away.now chosen c.requires.away c.requires.chosen base c.args.x inner row
    c.requires.base c.requires.below c.requires.outside (sym c.contains.ensures.found ∙ c.if-contains.false) refl refl refl in
    IfOk-weaker c.takes_at_once.result _ _
    (λ (added : Bool) told yes. sym (ap (λ (e : Exchange). e.addable) same)
    ∙ ap (λ J. (row_of (is_independent tree) J c.args.x).addable) (sym c.requires.joined) ∙ told yes)
    c.takes_at_once.ensures

pub takes_at_once-union_takes_at_once-requires : goal.takes_at_once-union_takes_at_once-requires
takes_at_once-union_takes_at_once-requires t c =
    let at = c.in-Union-Union in
    let ms = c.deref-in-Union-Union.result.now in
    let same = c.deref-in-Union-Union.ensures.value in
    let m = c.args.matroid.now in
    let size = size_at m at.matroids ms at.is-0 same in
    let kept = union_kept ms c.args.base.now at.parts at.kept (subst (KeepsUnion ms c.args.base.now) at.is-1 (keeps_of m at.matroids ms at.is-0 same c.args.base.now c.args.kept.now c.requires.kept)) in record {
      joined = joined_at m at.matroids ms at.is-0 same c.requires.sound;
      parts = kept.0;
      together = kept.1;
      kept = subst (AreKept KeepsOne ms at.parts) (sym c.deref-in-Union-Union-2.ensures.value) kept.2;
      below = subst (λ k. c.args.x < k) size c.requires.below;
      outside = c.requires.outside;
    }

pub takes_at_once-returns-in-Union-Union : goal.takes_at_once-returns-in-Union-Union
takes_at_once-returns-in-Union-Union t c =
    let at = c.in-Union-Union in
    let ms = c.deref-in-Union-Union.result.now in
    let base = c.args.base.now in
    let x = c.args.x in
    let test = test_at_node c.args.matroid.now at.matroids ms at.is-0 c.deref-in-Union-Union.ensures.value in
    IfOk-weaker c.union_takes_at_once.result
    (λ (added : Bool). added ≡ true → (row_of (union_in ms) base x).addable ≡ true)
    (λ (added : Bool). added ≡ true → (row_of (is_independent (tree_of c.args.matroid.now)) base x).addable ≡ true)
    (λ added told yes. ap (λ p. (row_of p base x).addable) test ∙ told yes)
    c.union_takes_at_once.ensures
