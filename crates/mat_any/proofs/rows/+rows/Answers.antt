-- Each kind that is made of others has its row by the law about rows that its minor or dual obeys; the row of a union is read off the search
-- for moves that ends, whose questions are rows of its matroids.
use Rattle.mat_any.proofs.Common.{◌≡◌, ◌&&◌, ◌<◌, ltb, length, map, refl, subst, sym, ap, ◌∙◌, rules, ltb-true, IfOk-weaker, all_below, is_member, is_member-all_below, Exchange, row_of, IsJoined-gives, truncated_row, restricted_row, restricted_row_outside, contracted_row, contracted_row_outside}
use Rattle.mat_any.proofs.Common.{outside_joined, AreKept, exchanges_with, IsReaching, AreMatroids, kept_at, part_passes, parts_count, sound_at, elements_in, size_in, test_in, union_in, IsSoundOne, KeepsOne, KeepsUnion, the_lemmas, dual, element_count, is_independent, tree_laws, tree_of}
use Rattle.mat_union.specs.EndedSearches.{IsEnded}
use Rattle.mat_union.proofs.AskedRows.{asked_below, reaching_is_ready, row_told}
use Rattle.mat_any.proofs.DualNests.{count_within, keeps_within, sound_within, test_within}
use Rattle.mat_any.proofs.JoinedLaws.{each_lawful}
use Rattle.mat_any.proofs.JoinedMatroids.{joined_at, keeps_of, size_at, test_at_node, union_kept}
use Rattle.mat_any.proofs.rows.+rows.Goals as goal
use Rattle.mat_any.proofs.rows.+rows.Goals.{truncation_row-then-exchange, truncation_row-else-exchange}

-- the dual of a dual: the row of the matroid within both
pub dual_of_dual_row-row-requires : goal.dual_of_dual_row-row-requires
dual_of_dual_row-row-requires t c =
    let base = c.args.base.now in
    let node = ap tree_of c.in-Dual.is ∙ ap (λ m. dual (tree_of m)) (sym c.deref.ensures) in
    let test = test_within _ _ node c.requires.sound in (
      search (rules, the_lemmas),
      (
        sound_within _ _ node c.requires.sound,
        (
          ap (λ p. p base) (sym test) ∙ c.requires.base,
          (keeps_within _ _ node base c.args.kept.now c.requires.kept, (subst (λ k. c.args.x < k) (count_within _ _ node) c.requires.below, c.requires.outside)),
        ),
      ),
    )

pub dual_of_dual_row-returns-in-Dual-clause-row : goal.dual_of_dual_row-returns-in-Dual-clause-row
dual_of_dual_row-returns-in-Dual-clause-row t c =
    let node = ap tree_of c.in-Dual.is ∙ ap (λ m. dual (tree_of m)) (sym c.deref.ensures) in
    let test = test_within _ _ node c.requires.sound in
    IfOk-weaker c.row.result _ _ (λ e told. told ∙ ap (λ p. row_of p c.args.base.now c.args.x) (sym test)) c.row.ensures.row

-- a truncation: the row of the matroid within; an element can be added only below the cap
pub truncation_row-returns-clause-row : goal.truncation_row-returns-clause-row
truncation_row-returns-clause-row t c =
    let cap = c.args.cap in
    truncated_row (tree_laws (tree_of c.args.inner.now) c.requires.sound) cap c.args.base.now c.args.x c.in_ok-exchange.exchange _
    c.requires.base c.requires.outside
    c.in_ok-exchange.ensures.row
    (elim c.if-exchange.branch [
      | truncation_row-then-exchange w ↦ w.result-is ∙ ap (λ k. ltb k cap) w.len.ensures.count
          ∙ ap (λ b. b && ltb (length c.args.base.now) cap) (sym w.if-exchange.true)
      | truncation_row-else-exchange w ↦ w.result-is ∙ w.if-exchange.false
          ∙ ap (λ b. b && ltb (length c.args.base.now) cap) (sym w.if-exchange.false)
    ])
    refl

-- a restriction: the row of the matroid within, for an element that is kept
pub restriction_row-returns-then-not-contains-clause-row : goal.restriction_row-returns-then-not-contains-clause-row
restriction_row-returns-then-not-contains-clause-row t c =
    restricted_row_outside (is_independent (tree_of c.args.inner.now)) c.args.elements.now c.args.base.now c.args.x _ c.requires.outside
    (sym c.contains.ensures.found ∙ c.if-not-contains.true)
    (ap (λ (e : Exchange). e.addable) c.no_exchange.ensures) (ap (λ (e : Exchange). e.with) c.no_exchange.ensures)

pub restriction_row-returns-clause-row : goal.restriction_row-returns-clause-row
restriction_row-returns-clause-row t c =
    let restricted = restricted_row (tree_laws (tree_of c.args.inner.now) c.requires.sound) c.args.elements.now c.args.base.now c.args.x in
    let here = sym c.contains.ensures.found ∙ c.if-not-contains.false in
    IfOk-weaker _ _ _ (λ row told. restricted row c.requires.base c.requires.outside here told) c.row.ensures.row

-- a contraction: the row at the set together with the chosen elements, without these
pub contraction_row-returns-then-contains-clause-row : goal.contraction_row-returns-then-contains-clause-row
contraction_row-returns-then-contains-clause-row t c =
    let tree = tree_of c.args.inner.now in
    contracted_row_outside (element_count tree) (is_independent tree) c.args.away.now c.args.base.now c.args.x _
    c.requires.away.rising c.requires.outside (sym c.contains.ensures.found ∙ c.if-contains.true)
    (ap (λ (e : Exchange). e.addable) c.no_exchange.ensures) (ap (λ (e : Exchange). e.with) c.no_exchange.ensures)

pub contraction_row-row-requires : goal.contraction_row-row-requires
contraction_row-row-requires t c =
    let tree = tree_of c.args.inner.now in
    let laws = tree_laws tree c.requires.sound in
    let away = c.args.away.now in
    let chosen = c.args.chosen.now in
    let base = c.args.base.now in (
      search rules,
      (
        c.requires.sound,
        (
          ap (is_independent tree) c.requires.joined
              ∙ (IsJoined-gives laws away chosen base c.requires.away.rising c.requires.chosen c.requires.base).joined,
          (
            c.requires.kept,
            (
              c.requires.below,
              ap (is_member c.args.x) c.requires.joined
                  ∙ outside_joined laws away chosen c.requires.away c.requires.chosen base c.args.x c.requires.outside
                  (sym c.contains.ensures.found ∙ c.if-contains.false),
            ),
          ),
        ),
      ),
    )

pub contraction_row-returns-clause-row : goal.contraction_row-returns-clause-row
contraction_row-returns-clause-row t c =
    let tree = tree_of c.args.inner.now in
    let laws = tree_laws tree c.requires.sound in
    contracted_row laws c.args.away.now c.args.chosen.now c.requires.away c.requires.chosen c.args.base.now c.args.x
    c.in_ok-exchange.exchange _ c.requires.base c.requires.below c.requires.outside
    (sym c.contains.ensures.found ∙ c.if-contains.false)
    (c.in_ok-exchange.ensures.row ∙ ap (λ J. row_of (is_independent tree) J c.args.x) c.requires.joined)
    refl c.in_ok-minus.ensures.members

-- a union: what the function on its parts promises
pub row-union_row-requires : goal.row-union_row-requires
row-union_row-requires t c =
    let at = c.in-Union-Union in
    let ms = c.deref-in-Union-Union.result.now in
    let same = c.deref-in-Union-Union.ensures.value in
    let m = c.args.matroid.now in
    let size = size_at m at.matroids ms at.is-0 same in
    let kept = union_kept ms c.args.base.now at.parts at.kept (subst (KeepsUnion ms c.args.base.now) at.is-1 (keeps_of m at.matroids ms at.is-0 same c.args.base.now c.args.kept.now c.requires.kept)) in (
      search (rules, the_lemmas),
      (
        joined_at m at.matroids ms at.is-0 same c.requires.sound,
        (
          kept.0,
          (
            kept.1,
            (
              subst (AreKept KeepsOne ms at.parts) (sym c.deref-in-Union-Union-2.ensures.value) kept.2,
              (subst (λ k. c.args.x < k) size c.requires.below, c.requires.outside),
            ),
          ),
        ),
      ),
    )

pub row-returns-in-Union-Union-clause-row : goal.row-returns-in-Union-Union-clause-row
row-returns-in-Union-Union-clause-row t c =
    let at = c.in-Union-Union in
    let test = test_at_node c.args.matroid.now at.matroids c.deref-in-Union-Union.result.now at.is-0 c.deref-in-Union-Union.ensures.value in
    IfOk-weaker c.union_row.result (λ (e : Exchange). e ≡ row_of (union_in c.deref-in-Union-Union.result.now) c.args.base.now c.args.x)
    (λ (e : Exchange). e ≡ row_of (is_independent (tree_of c.args.matroid.now)) c.args.base.now c.args.x)
    (λ e told. told ∙ ap (λ p. row_of p c.args.base.now c.args.x) (sym test)) c.union_row.ensures.row

-- the search for moves between the parts of a union, to its end
pub search_from-loop-asked-init : goal.search_from-loop-asked-init
search_from-loop-asked-init t c =
    let ms = c.args.matroids.now in
    let P = c.args.parts.now in
    let n = c.common_size_of-n.result in
    let ex = exchanges_with (map test_in ms) P in
    let count = parts_count test_in ms P c.requires.parts in
    subst (λ k. IsReaching n k ex c.args.among.now c.args.x c.in_ok-search.search) (sym count) (c.in_ok-search.ensures ex)

pub search_from-row_at-requires : goal.search_from-row_at-requires
search_from-row_at-requires t c =
    let ms = c.args.matroids.now in
    let P = c.args.parts.now in
    let q = c.in-Some.asked.part in
    let count = parts_count test_in ms P c.requires.parts in
    let l : q < length ms = subst (λ k. q < k) count (subst (λ k. k < length P) (sym c.in-Some.ensures.3) c.loop-asked.invariant.here) in
    let at = sound_at elements_in IsSoundOne (size_in ms) ms c.requires.joined.each q c.index-matroids-i.result l c.index-matroids-i.is in (
      search (rules, the_lemmas),
      (
        at.0,
        (
          part_passes test_in ms P c.requires.parts q c.index-matroids-i.result c.get.result.now l c.index-matroids-i.is c.get.ensures.item,
          (
            kept_at KeepsOne ms P c.args.kept.now c.requires.kept q c.index-matroids-i.result c.get.result.now c.index-kept-i.result l c.index-matroids-i.is c.get.ensures.item c.index-kept-i.is,
            subst (λ k. c.in-Some.asked.element < k) (c.common_size_of-n.ensures ∙ sym at.1)
                (subst (λ y. y < c.common_size_of-n.result) (sym c.in-Some.ensures.2) (asked_below c.loop-asked.invariant c.in-Some.ensures.1)),
          ),
        ),
      ),
    )

pub search_from-tell-requires-clause-open : goal.search_from-tell-requires-clause-open
search_from-tell-requires-clause-open t c = record { more = c.in-Some.ensures.1 }

pub search_from-loop-asked-preserved : goal.search_from-loop-asked-preserved
search_from-loop-asked-preserved t c =
    (c.in_ok-search-2.ensures _ _ _ _ _ c.loop-asked.invariant c.in-Some.ensures.0
    (row_told test_in c.args.matroids.now c.args.parts.now c.requires.parts c.loop-asked.search c.index-matroids-i.result c.in_ok-row.row c.loop-asked.invariant.here
    c.in-Some.ensures.2 c.in-Some.ensures.3 c.index-matroids-i.is c.get.ensures.item c.in_ok-row.ensures)).0

pub search_from-loop-asked-smaller : goal.search_from-loop-asked-smaller
search_from-loop-asked-smaller t c =
    (c.in_ok-search-2.ensures _ _ _ _ _ c.loop-asked.invariant c.in-Some.ensures.0
    (row_told test_in c.args.matroids.now c.args.parts.now c.requires.parts c.loop-asked.search c.index-matroids-i.result c.in_ok-row.row c.loop-asked.invariant.here
    c.in-Some.ensures.2 c.in-Some.ensures.3 c.index-matroids-i.is c.get.ensures.item c.in_ok-row.ensures)).1

pub search_from-returns-clause-ready : goal.search_from-returns-clause-ready
search_from-returns-clause-ready t c = reaching_is_ready c.loop-asked.invariant

pub search_from-returns-clause-ended : goal.search_from-returns-clause-ended
search_from-returns-clause-ended t c =
    subst (λ k. IsEnded k (map test_in c.args.matroids.now) c.args.parts.now c.args.among.now c.args.x c.loop-asked.search) c.common_size_of-n.ensures (record {
      laws = subst (λ k. AreMatroids k (map test_in c.args.matroids.now)) (sym c.common_size_of-n.ensures) (each_lawful c.args.matroids.now c.requires.joined);
      are = c.requires.parts;
      fresh = c.requires.fresh;
      reaching = c.loop-asked.invariant;
      end = c.in_default.ensures;
    })

pub search_from-new-requires-clause-among : goal.search_from-new-requires-clause-among
search_from-new-requires-clause-among t c = λ v h. subst (λ k. v < k) (sym c.common_size_of-n.ensures) (c.requires.among v h)

-- the row of a union, by that search
pub union_row-search_from-requires : goal.union_row-search_from-requires
union_row-search_from-requires t c =
    let n = size_in c.args.matroids.now in
    let all = c.in_ok-all.ensures ∙ ap all_below c.common_size_of.ensures in (
      search rules,
      (
        c.requires.joined,
        (
          c.requires.parts,
          (
            c.requires.kept,
            (
              λ v h. ltb-true v n (sym (is_member-all_below v n) ∙ ap (is_member v) (sym all) ∙ h),
              (c.requires.below, ap (is_member c.args.x) c.requires.together ∙ c.requires.outside),
            ),
          ),
        ),
      ),
    )

pub union_row-returns-clause-row : goal.union_row-returns-clause-row
union_row-returns-clause-row t c =
    let ms = c.args.matroids.now in
    let all = c.in_ok-all.ensures ∙ ap all_below c.common_size_of.ensures in
    let ended = subst (λ a. IsEnded (size_in ms) (map test_in ms) c.args.parts.now a c.args.x c.in_ok-search.search) all c.in_ok-search.ensures.ended in
    IfOk-weaker c.row_by_search.result _ _ (λ e told. told (size_in ms) (map test_in ms) c.args.parts.now c.args.x c.requires.together ended) c.row_by_search.ensures.row
