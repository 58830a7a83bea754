-- Each kind that is made of others runs as its law about runs says: a dual by what a run along the reversed order
-- leaves out, a truncation by the first that a run takes, minors along a changed order, a union by parts that grow. What is kept is kept within;
-- of a set of a union greedy parts come first, and what else of the set can come into the parts comes in, element after element.
use Rattle.mat_any.proofs.Common.{◌≡◌, ℕ, ◌+◌, ◌<◌, List, Bool, ◌++◌, [], get_or, length, map, reverse, refl, subst, sym, ap, ◌∙◌, arith, rules, IfOk-weaker, or_right, length-map, family_union, is_member, AllBelow, AreDistinct, IsSubset, minus, all_below, union, AllBelow-filter, AreDistinct-rising}
use Rattle.mat_any.proofs.Common.{IsSet-minus, IsSet-all_below, grown_along, IsMatroid, run_maximal_of, IsRunning-end, IsJoined-gives, kept_is, is_contracted, is_dual, is_restricted, is_truncated, contracted_laws, restricted_laws, dual_greedy_of, anew_at, anew_end, anew_none, made_end, made_none}
use Rattle.mat_any.proofs.Common.{made_part, made_same, made_set, part_stays, AreMadeSo, rest_below, taken_are, taken_inside, taken_more, taken_none, anew_same, anew_set, kept_more, part_passes, parts_count, sound_at, test_is, AreKeptAnew, AreKeptSo, AreKept, all_moved, parts_pass, part_at}
use Rattle.mat_any.proofs.Common.{AreParts, IsMaximal, KeepsAny, elements_in, size_in, test_in, union_in, IsSoundOne, KeepsOne, KeepsUnion, the_lemmas, dual, element_count, is_independent, tree_laws, tree_of}
use Rattle.mat_sets.proofs.DistinctLists.{AreDistinct-filter}
use Rattle.mat_sets.proofs.Sums.{AllBelow-at}
use Rattle.mat_minors.proofs.DualNext.{kept_of_next}
use Rattle.mat_minors.proofs.MinorRuns.{contracted_greedy, restricted_along}
use Rattle.mat_minors.proofs.RunOrders.{after_below, after_distinct, turned_below, turned_distinct}
use Rattle.mat_union.proofs.FillingParts.{start_growing}
use Rattle.mat_union.proofs.GrowingParts.{placed_grow}
use Rattle.mat_union.proofs.GrowingSteps.{spanned_grown}
use Rattle.mat_union.proofs.GrowthLoops.{is_spanned}
use Rattle.mat_union.proofs.MovedSets.{all_moved_at}
use Rattle.mat_union.proofs.PlacedElements.{search_places}
use Rattle.mat_union.proofs.StuckParts.{next_below}
use Rattle.mat_union.proofs.UnionRuns.{spanned_turn, first_run_are, first_run_holds, placed_turn, running_first, running_more, turn_stands}
use Rattle.mat_union.specs.Placings.{ArePlaced, IsPlaceSearch, IsStuckSearch}
use Rattle.mat_any.proofs.DualNests.{count_within, keeps_within, sound_within, test_within}
use Rattle.mat_any.proofs.JoinedLaws.{each_lawful, union_lawful}
use Rattle.mat_any.proofs.JoinedMatroids.{joined_at, keeps_at, size_at, test_at_node}
use Rattle.mat_any.proofs.WholeRuns.{growing_ends, growing_more, growing_within, maximal_whole, run_of_rest}
use Rattle.mat_any.proofs.runs.+running.Goals as goal
use Rattle.mat_any.proofs.runs.+running.Goals.{make_moves-then-is_entered_or_left+in_ok-next+in_ok-one, make_moves-else-is_entered_or_left, take_turn-then-stands-via-then-stands, take_turn-then-stands-via-else-stands+then-not-contains}

-- the dual of a dual runs as the matroid within both
pub dual_run-run-requires : goal.dual_run-run-requires
dual_run-run-requires t c =
    let node = ap tree_of c.in-Dual.is ∙ ap (λ m. dual (tree_of m)) (sym c.deref.ensures) in (
      search (rules, the_lemmas),
      (sound_within _ _ node c.requires.sound, (subst (λ k. AllBelow k c.args.order.now) (count_within _ _ node) c.requires.below, c.requires.distinct)),
    )

pub dual_run-returns-in-Dual : goal.dual_run-returns-in-Dual
dual_run-returns-in-Dual t c =
    let node = ap tree_of c.in-Dual.is ∙ ap (λ m. dual (tree_of m)) (sym c.deref.ensures) in
    let test = test_within _ _ node c.requires.sound in
    IfOk-weaker c.run.result _ _ (λ s told. told ∙ ap (λ p. grown_along p [] c.args.order.now) (sym test)) c.run.ensures

-- the dual of a dual keeps what the matroid within both keeps
pub dual_keep-keep-requires : goal.dual_keep-keep-requires
dual_keep-keep-requires t c =
    let node = ap tree_of c.in-Dual.is ∙ ap (λ m. dual (tree_of m)) (sym c.deref.ensures) in
    let test = test_within _ _ node c.requires.sound in
    (search (rules, the_lemmas), (sound_within _ _ node c.requires.sound, ap (λ p. p c.args.set.now) (sym test) ∙ c.requires.base))

-- and what that keeps of the next set
pub dual_next-returns-in-Some : goal.dual_next-returns-in-Some
dual_next-returns-in-Some t c =
    kept_of_next c.args._base.now c.args.next.now c.args.kept.now _ c.requires.kept (sym c.in-Some.is ∙ c.in_ok-same.ensures)

pub dual_of_dual_next-keep_next-requires : goal.dual_of_dual_next-keep_next-requires
dual_of_dual_next-keep_next-requires t c =
    let base = c.args.base.now in
    let node = ap tree_of c.in-Dual.is ∙ ap (λ m. dual (tree_of m)) (sym c.deref.ensures) in
    let test = test_within _ _ node c.requires.sound in (
      search (rules, the_lemmas),
      (
        sound_within _ _ node c.requires.sound,
        (
          ap (λ p. p base) (sym test) ∙ c.requires.base,
          (keeps_within _ _ node base c.args.kept.now c.requires.kept, ap (λ p. p c.args.next.now) (sym test) ∙ c.requires.next),
        ),
      ),
    )

-- a dual: a run through all other elements, and then through the order from its end, leaves what the dual takes
pub reversed_run-run-requires : goal.reversed_run-run-requires
reversed_run-run-requires t c =
    let n = element_count (tree_of c.args.inner.now) in
    let told = c.deref.ensures.value ∙ c.in_ok-items.ensures in
    let items = told ∙ ap (λ k. minus (all_below k) c.in_ok-all.all ++ reverse c.args.order.now) c.size_of.ensures in (
      search rules,
      (
        c.requires.sound,
        (
          subst (AllBelow n) (sym items) (turned_below n c.in_ok-all.all c.args.order.now c.requires.below),
          subst AreDistinct (sym told) (turned_distinct _ c.in_ok-all.all c.args.order.now c.in_ok-all.ensures.members c.requires.distinct),
        ),
      ),
    )

pub reversed_run-returns : goal.reversed_run-returns
reversed_run-returns t c =
    let n = element_count (tree_of c.args.inner.now) in
    let p = is_independent (tree_of c.args.inner.now) in
    let all = c.in_ok-all.all in
    let items = c.deref.ensures.value ∙ c.in_ok-items.ensures ∙ ap (λ k. minus (all_below k) all ++ reverse c.args.order.now) c.size_of.ensures in
    let whole = dual_greedy_of (tree_laws (tree_of c.args.inner.now) c.requires.sound) c.args.order.now all c.requires.distinct c.requires.below
    c.in_ok-all.ensures.members in
    IfOk-weaker c.minus.result (λ s. s ≡ minus all c.in_ok-base.base) (λ s. s ≡ grown_along (is_dual n p) [] c.args.order.now)
    (λ s told. told ∙ ap (minus all) (c.in_ok-base.ensures ∙ ap (grown_along p []) items) ∙ sym whole) c.minus.ensures.members

-- a truncation: the first elements that a run takes, up to the cap
pub truncation_run-returns : goal.truncation_run-returns
truncation_run-returns t c =
    let tree = tree_of c.args.inner.now in
    let order = c.args.order.now in
    let p = is_independent tree in
    IfOk-weaker c.first_taken.result
    (λ s. (n : ℕ) (q : List ℕ → Bool) → IsMatroid n q → AreDistinct order → c.in_ok-all.all ≡ grown_along q [] order
    → s ≡ grown_along (is_truncated c.args.cap q) [] order)
    (λ s. s ≡ grown_along (is_truncated c.args.cap p) [] order)
    (λ s told. told (element_count tree) p (tree_laws tree c.requires.sound) c.requires.distinct c.in_ok-all.ensures)
    c.first_taken.ensures

-- a restriction: a run along the kept elements of the order
pub restriction_run-run-requires : goal.restriction_run-run-requires
restriction_run-run-requires t c =
    let told = c.deref.ensures.value ∙ c.in_ok-items.ensures in
    let test : ℕ → Bool = λ x. is_member x c.args.kept.now in (
      search rules,
      (
        c.requires.sound,
        (
          subst (AllBelow (element_count (tree_of c.args.inner.now))) (sym told) (AllBelow-filter _ test c.args.order.now c.requires.below),
          subst AreDistinct (sym told) (AreDistinct-filter test c.args.order.now c.requires.distinct),
        ),
      ),
    )

pub restriction_run-returns : goal.restriction_run-returns
restriction_run-returns t c =
    let tree = tree_of c.args.inner.now in
    let p = is_independent tree in
    let kept = c.args.kept.now in
    let empty = (restricted_laws (element_count tree) p kept (tree_laws tree c.requires.sound)).empty in
    let whole = restricted_along p kept [] c.args.order.now empty in
    IfOk-weaker c.run.result (λ s. s ≡ grown_along p [] c.deref.result.now) (λ s. s ≡ grown_along (is_restricted kept p) [] c.args.order.now)
    (λ s told. told ∙ ap (grown_along p []) (c.deref.ensures.value ∙ c.in_ok-items.ensures) ∙ sym whole) c.run.ensures

-- a contraction: a run through the contracted elements, and then through the others
pub contraction_run-run-requires : goal.contraction_run-run-requires
contraction_run-run-requires t c =
    let told = c.deref.ensures.value ∙ c.in_ok-items.ensures in
    let away = c.args.away.now in (
      search rules,
      (
        c.requires.sound,
        (
          subst (AllBelow (element_count (tree_of c.args.inner.now))) (sym told)
              (after_below _ away c.args.order.now c.requires.away.below c.requires.below),
          subst AreDistinct (sym told) (after_distinct away c.args.order.now c.requires.away.rising c.requires.distinct),
        ),
      ),
    )

pub contraction_run-returns : goal.contraction_run-returns
contraction_run-returns t c =
    let tree = tree_of c.args.inner.now in
    let n = element_count tree in
    let p = is_independent tree in
    let away = c.args.away.now in
    let laws = tree_laws tree c.requires.sound in
    let empty = (contracted_laws n p away c.requires.away.rising laws).empty in
    let run = c.in_ok-all.ensures ∙ ap (grown_along p []) (c.deref.ensures.value ∙ c.in_ok-items.ensures) in
    let whole = contracted_greedy laws away c.args.order.now c.requires.away c.requires.below empty in
    IfOk-weaker c.minus.result (λ s. s ≡ minus c.in_ok-all.all away) (λ s. s ≡ grown_along (is_contracted n away p) [] c.args.order.now)
    (λ s told. told ∙ ap (λ all. minus all away) run ∙ sym whole) c.minus.ensures.members

-- a union: what the two functions on its parts promise
pub run-union_run-requires : goal.run-union_run-requires
run-union_run-requires t c =
    let at = c.in-Union in
    let m = c.args.matroid.now in
    let ms = c.deref-in-Union.result.now in
    let same = c.deref-in-Union.ensures.value in
    (search (rules, the_lemmas), (joined_at m at.parts ms at.is same c.requires.sound, (subst (λ k. AllBelow k c.args.order.now) (size_at m at.parts ms at.is same) c.requires.below, c.requires.distinct)))

pub run-returns-in-Union : goal.run-returns-in-Union
run-returns-in-Union t c =
    let test = test_at_node c.args.matroid.now c.in-Union.parts c.deref-in-Union.result.now c.in-Union.is c.deref-in-Union.ensures.value in
    IfOk-weaker c.union_run.result (λ s. s ≡ grown_along (union_in c.deref-in-Union.result.now) [] c.args.order.now)
    (λ s. s ≡ grown_along (is_independent (tree_of c.args.matroid.now)) [] c.args.order.now)
    (λ s told. told ∙ ap (λ p. grown_along p [] c.args.order.now) (sym test)) c.union_run.ensures

pub keep-union_keep-requires : goal.keep-union_keep-requires
keep-union_keep-requires t c =
    let at = c.in-Union in
    let m = c.args.matroid.now in
    let ms = c.deref-in-Union.result.now in
    let same = c.deref-in-Union.ensures.value in
    (search (rules, the_lemmas), (joined_at m at.parts ms at.is same c.requires.sound, ap (λ p. p c.args.base.now) (sym (test_at_node m at.parts ms at.is same)) ∙ c.requires.base))

pub keep-returns-in-Union : goal.keep-returns-in-Union
keep-returns-in-Union t c =
    IfOk-weaker c.union_keep.result (λ k. KeepsUnion c.deref-in-Union.result.now c.args.base.now k) (λ k. KeepsAny (tree_of c.args.matroid.now) c.args.base.now k)
    (λ k told. keeps_at c.args.matroid.now c.in-Union.parts c.deref-in-Union.result.now c.in-Union.is c.deref-in-Union.ensures.value c.args.base.now k told) c.union_keep.ensures

-- what a contraction keeps: a maximal independent set of contracted elements, and what is kept of it together with the set
pub contraction_keep-run-requires : goal.contraction_keep-run-requires
contraction_keep-run-requires t c =
    let items = c.as_slice.ensures.items in (
      search rules,
      (
        c.requires.sound,
        (
          subst (AllBelow (element_count (tree_of c.args.inner.now))) (sym items) c.requires.away.below,
          subst AreDistinct (sym items) (AreDistinct-rising c.args.away.now c.rises.ensures),
        ),
      ),
    )

pub contraction_keep-keep-requires : goal.contraction_keep-keep-requires
contraction_keep-keep-requires t c =
    let tree = tree_of c.args.inner.now in
    let p = is_independent tree in
    let chosen = run_maximal_of c.lawful.ensures c.args.away.now c.in_ok-chosen.chosen (c.in_ok-chosen.ensures ∙ ap (grown_along p []) c.as_slice.ensures.items) in (
      search rules,
      (
        c.requires.sound,
        ap p c.in_ok-joined.ensures.members
            ∙ (IsJoined-gives c.lawful.ensures c.args.away.now c.in_ok-chosen.chosen c.args.set.now c.requires.away.rising chosen c.requires.base).joined,
      ),
    )

pub contraction_keep-returns : goal.contraction_keep-returns
contraction_keep-returns t c =
    let tree = tree_of c.args.inner.now in
    let p = is_independent tree in
    let chosen = run_maximal_of c.lawful.ensures c.args.away.now c.in_ok-chosen.chosen (c.in_ok-chosen.ensures ∙ ap (grown_along p []) c.as_slice.ensures.items) in
    IfOk-weaker c.joined_kept.result _ _
    (λ k made. made tree c.args.away.now c.args.set.now chosen c.in_ok-joined.ensures.members c.in_ok-kept.ensures)
    c.joined_kept.ensures

-- what a dual keeps: a base that is disjoint from the set
pub columns_keep-base_keep-requires : goal.columns_keep-base_keep-requires
columns_keep-base_keep-requires t c =
    let n = element_count (tree_of c.args.inner.now) in
    let outside = c.in_ok-outside.ensures.members
    ∙ ap (λ E. minus E c.args.set.now) (c.in_ok-all_below.ensures.members ∙ ap all_below c.size_of.ensures) in
    (search rules, (c.requires.sound, subst (AllBelow n) (sym outside) (IsSet-minus n (all_below n) c.args.set.now (IsSet-all_below n)).below))

pub columns_keep-returns : goal.columns_keep-returns
unfolding union
columns_keep-returns t c =
    let outside = c.in_ok-outside.ensures.members
    ∙ ap (λ E. minus E c.args.set.now) (c.in_ok-all_below.ensures.members ∙ ap all_below c.size_of.ensures) in
    kept_is c.lawful.ensures c.args.set.now [] _ c.in_ok-base.base.set c.in_ok-marks.marks c.in_ok-base_marks.base_marks c.in_ok-all.all
    c.requires.base refl outside c.in_ok-base.ensures.maximal c.in_ok-marks.ensures.members c.in_ok-base_marks.ensures.members c.in_ok-all.ensures

pub columns_keep-columns-requires-clause-base : goal.columns_keep-columns-requires-clause-base
columns_keep-columns-requires-clause-base t c = c.in_ok-base.ensures.maximal.passes

pub base_keep-union_base-requires : goal.base_keep-union_base-requires
base_keep-union_base-requires t c =
    let at = c.in-Union in
    let m = c.args.matroid.now in
    let ms = c.deref.result.now in
    let same = c.deref.ensures.value in (
      search (rules, the_lemmas),
      (
        joined_at m at.parts ms at.is same c.requires.sound,
        subst (λ k. AllBelow k c.args.within.now) (size_at m at.parts ms at.is same) c.requires.below,
      ),
    )

pub base_keep-returns-in-Union-clause-maximal : goal.base_keep-returns-in-Union-clause-maximal
base_keep-returns-in-Union-clause-maximal t c =
    let test = test_at_node c.args.matroid.now c.in-Union.parts c.deref.result.now c.in-Union.is c.deref.ensures.value in
    IfOk-weaker c.union_base.result _ _ (λ k told. subst (λ p. IsMaximal p c.args.within.now k.set) (sym test) told) c.union_base.ensures.maximal

pub base_keep-returns-in-Union-clause-kept : goal.base_keep-returns-in-Union-clause-kept
base_keep-returns-in-Union-clause-kept t c =
    IfOk-weaker c.union_base.result _ _
    (λ k told. keeps_at c.args.matroid.now c.in-Union.parts c.deref.result.now c.in-Union.is c.deref.ensures.value k.set k.kept told)
    c.union_base.ensures.kept

pub run_base-run-requires : goal.run_base-run-requires
run_base-run-requires t c =
    let items = c.as_slice.ensures.items in (
      search rules,
      (
        c.requires.sound,
        (
          subst (AllBelow (element_count (tree_of c.args.matroid.now))) (sym items) c.requires.below,
          rw items (AreDistinct-rising c.args.within.now c.as_slice.ensures.rises),
        ),
      ),
    )

pub run_base-keep-requires : goal.run_base-keep-requires
run_base-keep-requires t c =
    let p = is_independent (tree_of c.args.matroid.now) in
    let base = run_maximal_of c.lawful.ensures c.args.within.now c.in_ok-set.set (c.in_ok-set.ensures ∙ ap (grown_along p []) c.as_slice.ensures.items) in
    (search rules, (c.requires.sound, base.passes))

pub run_base-returns-clause-maximal : goal.run_base-returns-clause-maximal
run_base-returns-clause-maximal t c =
    let p = is_independent (tree_of c.args.matroid.now) in
    run_maximal_of c.lawful.ensures c.args.within.now c.in_ok-set.set (c.in_ok-set.ensures ∙ ap (grown_along p []) c.as_slice.ensures.items)

pub union_base-filled_parts-requires : goal.union_base-filled_parts-requires
union_base-filled_parts-requires t c = (search rules, (c.requires.joined, c.requires.below))

pub union_base-returns-clause-maximal : goal.union_base-returns-clause-maximal
union_base-returns-clause-maximal t c =
    let same : c.in_ok-set.set ≡ family_union c.in_ok-growth.growth.parts = search rules in
    subst (IsMaximal (union_in c.args.matroids.now) c.args.within.now) (sym same) c.in_ok-growth.ensures.maximal

pub union_base-returns-clause-kept : goal.union_base-returns-clause-kept
union_base-returns-clause-kept t c =
    let same : c.in_ok-set.set ≡ family_union c.in_ok-growth.growth.parts = search rules in
    c.parts_kept-kept.ensures c.args.matroids.now c.in_ok-set.set c.in_ok-growth.ensures.are (sym same) c.in_ok-growth.ensures.kept

-- greedy parts of a set: each matroid takes what it can of what the ones before it left
pub greedy_parts-loop-i-init : goal.greedy_parts-loop-i-init
greedy_parts-loop-i-init t c = taken_none (map test_in c.args.matroids.now) c.args.set.now _ c.in_ok-rest.rest c.new-parts.ensures.items c.in_ok-rest.ensures.equal

pub greedy_parts-run-requires : goal.greedy_parts-run-requires
greedy_parts-run-requires t c =
    let ms = c.args.matroids.now in
    let n = size_in ms in
    let rest = c.loop-i.rest in
    let items = c.as_slice.ensures.items in
    let at = sound_at elements_in IsSoundOne n ms c.requires.joined.each c.loop-i.i c.index-matroids-i.result c.loop-i-test.true c.index-matroids-i.is in (
      search (rules, the_lemmas),
      (
        at.0,
        (
          subst (λ k. AllBelow k c.as_slice.result.now) (sym at.1) (subst (AllBelow n) (sym items) (rest_below c.loop-i.invariant n c.requires.below)),
          subst AreDistinct (sym items) (AreDistinct-rising rest c.as_slice.ensures.rises),
        ),
      ),
    )

pub greedy_parts-loop-i-preserved : goal.greedy_parts-loop-i-preserved
greedy_parts-loop-i-preserved t c =
    let ms = c.args.matroids.now in
    let m = c.index-matroids-i.result in
    let at = sound_at elements_in IsSoundOne (size_in ms) ms c.requires.joined.each c.loop-i.i m c.loop-i-test.true c.index-matroids-i.is in
    let taken = run_of_rest (tree_laws (tree_of m) at.0) c.loop-i.rest c.in_ok-part.part (c.in_ok-part.ensures ∙ ap (grown_along (test_in m) []) c.as_slice.ensures.items) in
    taken_more c.loop-i.invariant (test_in m) c.in_ok-part.part (test_is test_in ms c.loop-i.i m c.loop-i-test.true c.index-matroids-i.is) taken
    _ c.in_ok-rest-2.rest c.in_ok-push.ensures.items c.in_ok-rest-2.ensures.members

pub greedy_parts-returns-clause-are : goal.greedy_parts-returns-clause-are
greedy_parts-returns-clause-are t c =
    let ms = c.args.matroids.now in
    let tests = map test_in ms in
    let end : length tests ≡ c.loop-i.i = length-map ms test_in ∙ omega (arith, c.loop-i-test.false, c.loop-i.auto.i-end) in
    subst (AreParts tests) (sym c.new.ensures.items) (taken_are c.loop-i.invariant end)

pub greedy_parts-returns-clause-inside : goal.greedy_parts-returns-clause-inside
greedy_parts-returns-clause-inside t c = subst (λ p. IsSubset (family_union p) c.args.set.now) (sym c.new.ensures.items) (taken_inside c.loop-i.invariant)

-- what a union keeps: greedy parts, into which the other members come one after the other
pub union_keep-filled_parts-requires : goal.union_keep-filled_parts-requires
union_keep-filled_parts-requires t c =
    let set = (union_lawful c.args.matroids.now c.requires.joined).sets c.args.set.now c.requires.base in
    (search rules, (c.requires.joined, set.below))

pub union_keep-returns : goal.union_keep-returns
union_keep-returns t c =
    let ms = c.args.matroids.now in
    let set = c.args.set.now in
    let whole = maximal_whole (union_lawful ms c.requires.joined) set (family_union c.in_ok-growth.growth.parts) c.requires.base
    c.in_ok-growth.ensures.maximal in
    c.parts_kept.ensures ms set c.in_ok-growth.ensures.are whole c.in_ok-growth.ensures.kept

pub filled_parts-greedy_parts-requires : goal.filled_parts-greedy_parts-requires
filled_parts-greedy_parts-requires t c = (search rules, (c.requires.joined, c.requires.below))

pub filled_parts-growth_from-requires : goal.filled_parts-growth_from-requires
filled_parts-growth_from-requires t c = (search rules, (c.requires.joined, c.in_ok-parts.ensures.are))

pub filled_parts-loop-x-init : goal.filled_parts-loop-x-init
filled_parts-loop-x-init t c =
    let ms = c.args.matroids.now in
    let growth = c.in_ok-growth in
    record {
      growing = growth.ensures.growing;
      kept = growth.ensures.kept;
      grown = growing_within (union_in ms) c.as_slice-x-items.result.now c.args.set.now (family_union growth.growth.parts)
          c.as_slice-x-items.ensures.items
          (parts_pass (map test_in ms) (each_lawful ms c.requires.joined) growth.growth.parts growth.ensures.growing.are)
          (subst (λ p. IsSubset (family_union p) c.args.set.now) (sym growth.ensures.same) c.in_ok-parts.ensures.inside);
    }

pub filled_parts-take_turn-requires : goal.filled_parts-take_turn-requires
filled_parts-take_turn-requires t c =
    let n = size_in c.args.matroids.now in
    let at = next_below c.as_slice-x-items.result.now c.args.set.now n c.loop-x.x-index c.as_slice-x-items.ensures.items c.requires.below
    c.loop-x-test.true in
    (search rules, (c.requires.joined, (c.loop-x.invariant.growing, (c.loop-x.invariant.kept, at))))

pub filled_parts-loop-x-preserved : goal.filled_parts-loop-x-preserved
filled_parts-loop-x-preserved t c = record {
  growing = c.in_ok-take_turn.ensures.growing;
  kept = c.in_ok-take_turn.ensures.kept;
  grown = growing_more (union_lawful c.args.matroids.now c.requires.joined) c.loop-x.invariant.grown
      (get_or c.as_slice-x-items.result.now c.loop-x.x-index 0) c.loop-x-test.true refl (family_union c.take_turn.new.growth.parts)
      c.in_ok-take_turn.ensures.step;
}

pub filled_parts-returns-clause-are : goal.filled_parts-returns-clause-are
filled_parts-returns-clause-are t c = c.loop-x.invariant.growing.are

pub filled_parts-returns-clause-kept : goal.filled_parts-returns-clause-kept
filled_parts-returns-clause-kept t c = c.loop-x.invariant.kept

pub filled_parts-returns-clause-maximal : goal.filled_parts-returns-clause-maximal
filled_parts-returns-clause-maximal t c =
    growing_ends (union_lawful c.args.matroids.now c.requires.joined) c.as_slice-x-items.result.now c.args.set.now
    (family_union c.loop-x.growth.parts) c.loop-x.x-index c.as_slice-x-items.ensures.items c.loop-x-test.false c.loop-x.invariant.grown

-- what each matroid keeps of its part
pub keep_each-loop-i-preserved : goal.keep_each-loop-i-preserved
keep_each-loop-i-preserved t c =
    let ms = c.args.matroids.now in
    subst (AreKeptSo KeepsOne ms c.args.parts.now (c.loop-i.i + 1)) (sym c.in_ok-push.ensures.items)
    (kept_more KeepsOne ms c.args.parts.now c.loop-i.i c.loop-i.kept.items c.index-matroids-i.result c.get.result.now c.in_ok-keep.field-0 c.loop-i.invariant c.loop-i-test.true
    c.index-matroids-i.is c.get.ensures.item c.in_ok-keep.ensures)

-- what a dual keeps: the exchanges at its base
-- the run of a union in parts: the first matroid takes what it can, and the others of the order come one after the other
pub grown_parts-loop-x-init : goal.grown_parts-loop-x-init
grown_parts-loop-x-init t c =
    let ms = c.args.matroids.now in
    record {
      growing = c.in_ok-growth.ensures.growing;
      kept = c.in_ok-growth.ensures.kept;
      running = running_first (each_lawful ms c.requires.joined) (subst (λ k. 0 < k) (sym (length-map ms test_in)) c.requires.joined.some)
          c.args.order.now c.in_ok-growth.growth.parts c.in_ok-growth.ensures.growing.are c.in_ok-growth.ensures.first;
    }

pub grown_parts-loop-x-preserved : goal.grown_parts-loop-x-preserved
grown_parts-loop-x-preserved t c = record {
  growing = c.in_ok-take_turn.ensures.growing;
  kept = c.in_ok-take_turn.ensures.kept;
  running = running_more c.loop-x.invariant.running (get_or c.args.order.now c.loop-x.x-index 0) c.loop-x-test.true refl
      (family_union c.take_turn.new.growth.parts) c.in_ok-take_turn.ensures.step;
}

pub grown_parts-take_turn-requires : goal.grown_parts-take_turn-requires
grown_parts-take_turn-requires t c = (
  search rules,
  (c.requires.joined, (c.loop-x.invariant.growing, (c.loop-x.invariant.kept, AllBelow-at (size_in c.args.matroids.now) c.args.order.now c.loop-x.x-index c.requires.below c.loop-x-test.true))),
)

pub grown_parts-returns-clause-are : goal.grown_parts-returns-clause-are
grown_parts-returns-clause-are t c = c.loop-x.invariant.growing.are

pub grown_parts-returns-clause-taken : goal.grown_parts-returns-clause-taken
grown_parts-returns-clause-taken t c =
    IsRunning-end (union_in c.args.matroids.now) c.args.order.now (family_union c.loop-x.growth.parts) c.loop-x.x-index c.loop-x-test.false c.loop-x.invariant.running

-- the parts that such a run begins with
pub first_growth-growth_from-requires : goal.first_growth-growth_from-requires
first_growth-growth_from-requires t c =
    let ms = c.args.matroids.now in
    let some = c.requires.joined.some in
    let count = length-map ms test_in in
    let test = test_is test_in ms 0 c.index-matroids-0.result some c.index-matroids-0.is in
    let are = first_run_are (each_lawful ms c.requires.joined) (subst (λ k. 0 < k) (sym count) some) c.args.order.now c.in_ok-first.first
    (c.in_ok-first.ensures ∙ ap (λ p. grown_along p [] c.args.order.now) (sym test)) c.in_ok-parts.parts (c.in_ok-parts.ensures.long ∙ sym count) c.in_ok-parts.ensures.first c.in_ok-parts.ensures.others in
    (search rules, (c.requires.joined, are))

pub first_growth-returns-clause-first : goal.first_growth-returns-clause-first
first_growth-returns-clause-first t c =
    let ms = c.args.matroids.now in
    let some = c.requires.joined.some in
    let count = length-map ms test_in in
    let test = test_is test_in ms 0 c.index-matroids-0.result some c.index-matroids-0.is in
    let holds = first_run_holds (each_lawful ms c.requires.joined) (subst (λ k. 0 < k) (sym count) some) c.args.order.now c.in_ok-first.first
    (c.in_ok-first.ensures ∙ ap (λ p. grown_along p [] c.args.order.now) (sym test)) c.in_ok-parts.parts (c.in_ok-parts.ensures.long ∙ sym count) c.in_ok-parts.ensures.first c.in_ok-parts.ensures.others in
    IfOk-weaker c.growth_from.result _ _ (λ grown same. ap family_union same ∙ holds) c.growth_from.ensures.same

pub growth_from-returns-clause-growing : goal.growth_from-returns-clause-growing
growth_from-returns-clause-growing t c =
    let ms = c.args.matroids.now in
    start_growing (each_lawful ms c.requires.joined) c.args.parts c.requires.parts _ _ c.new.ensures.members (c.in_ok-unspanned.ensures ∙ ap all_below c.common_size_of.ensures)

-- one turn of it: an element comes into the parts, or all that it reaches is found to be spanned
pub take_turn-returns-then-stands-clause-step : goal.take_turn-returns-then-stands-clause-step
take_turn-returns-then-stands-clause-step t c =
    let ms = c.args.matroids.now in
    let old = c.args.growth.now in
    let x = c.args.x in
    elim c.then-stands.branch [
      | take_turn-then-stands-via-then-stands w ↦ turn_stands (union_in ms) (family_union old.parts) x (sym c.stands.ensures ∙ w.if-stands.true)
      | take_turn-then-stands-via-else-stands+then-not-contains w ↦ spanned_turn (each_lawful ms c.requires.joined) x (sym c.stands.ensures ∙ w.if-stands.false) c.requires.growing
          (is_spanned c.requires.growing x c.requires.below (sym w.contains.ensures ∙ w.if-not-contains.true))
    ]

pub take_turn-make_moves-requires : goal.take_turn-make_moves-requires
take_turn-make_moves-requires t c =
    let ms = c.args.matroids.now in
    let old = c.args.growth.now in
    let placed = search_places (size_in ms) (map test_in ms) old.parts old.unspanned c.args.x c.in-Placed.is c.in_ok-moves.ensures c.deref.result.now c.deref.ensures.value in
    (search rules, (c.requires.joined, (c.requires.growing.are, (placed.are, c.requires.kept))))

pub take_turn-returns-in_ok-make_moves-in-Placed-clause-growing : goal.take_turn-returns-in_ok-make_moves-in-Placed-clause-growing
take_turn-returns-in_ok-make_moves-in-Placed-clause-growing t c =
    let ms = c.args.matroids.now in
    let old = c.args.growth.now in
    let placed : ArePlaced (map test_in ms) old.parts old.unspanned c.args.x c.make_moves.new.parts =
    subst (ArePlaced (map test_in ms) old.parts old.unspanned c.args.x) (sym c.in_ok-make_moves-in-Placed.ensures.parts)
    (search_places (size_in ms) (map test_in ms) old.parts old.unspanned c.args.x c.in-Placed.is c.in_ok-moves.ensures c.deref.result.now c.deref.ensures.value) in
    placed_grow (each_lawful ms c.requires.joined) c.requires.growing placed (sym c.contains.ensures ∙ c.if-not-contains.false)

pub take_turn-returns-in_ok-make_moves-in-Placed-clause-step : goal.take_turn-returns-in_ok-make_moves-in-Placed-clause-step
take_turn-returns-in_ok-make_moves-in-Placed-clause-step t c =
    let ms = c.args.matroids.now in
    let old = c.args.growth.now in
    let placed : ArePlaced (map test_in ms) old.parts old.unspanned c.args.x c.make_moves.new.parts =
    subst (ArePlaced (map test_in ms) old.parts old.unspanned c.args.x) (sym c.in_ok-make_moves-in-Placed.ensures.parts)
    (search_places (size_in ms) (map test_in ms) old.parts old.unspanned c.args.x c.in-Placed.is c.in_ok-moves.ensures c.deref.result.now c.deref.ensures.value) in
    placed_turn (each_lawful ms c.requires.joined) c.args.x (sym c.stands.ensures ∙ c.if-stands.false) placed

pub take_turn-returns-in_ok-mark_spanned-in-Stuck-clause-growing : goal.take_turn-returns-in_ok-mark_spanned-in-Stuck-clause-growing
take_turn-returns-in_ok-mark_spanned-in-Stuck-clause-growing t c =
    let ms = c.args.matroids.now in
    let old = c.args.growth.now in
    let stuck : IsStuckSearch (size_in ms) (map test_in ms) old.parts old.unspanned c.args.x c.in-Stuck.search =
    subst (IsPlaceSearch (size_in ms) (map test_in ms) old.parts old.unspanned c.args.x) c.in-Stuck.is c.in_ok-moves.ensures in
    spanned_grown (each_lawful ms c.requires.joined) c.requires.growing stuck.reaching stuck.end c.mark_spanned.new.spanned c.mark_spanned.new.unspanned c.reached.result.now c.reached.ensures
    c.mark_spanned.ensures.rises c.in_ok-mark_spanned-in-Stuck.ensures.spanned c.in_ok-mark_spanned-in-Stuck.ensures.unspanned

pub take_turn-returns-in_ok-mark_spanned-in-Stuck-clause-step : goal.take_turn-returns-in_ok-mark_spanned-in-Stuck-clause-step
take_turn-returns-in_ok-mark_spanned-in-Stuck-clause-step t c =
    let ms = c.args.matroids.now in
    let old = c.args.growth.now in
    let x = c.args.x in
    let stuck : IsStuckSearch (size_in ms) (map test_in ms) old.parts old.unspanned x c.in-Stuck.search =
    subst (IsPlaceSearch (size_in ms) (map test_in ms) old.parts old.unspanned x) c.in-Stuck.is c.in_ok-moves.ensures in
    let grown = spanned_grown (each_lawful ms c.requires.joined) c.requires.growing stuck.reaching stuck.end c.mark_spanned.new.spanned c.mark_spanned.new.unspanned c.reached.result.now c.reached.ensures
    c.mark_spanned.ensures.rises c.in_ok-mark_spanned-in-Stuck.ensures.spanned c.in_ok-mark_spanned-in-Stuck.ensures.unspanned in
    spanned_turn (each_lawful ms c.requires.joined) x (sym c.stands.ensures ∙ c.if-stands.false) grown
    (c.in_ok-mark_spanned-in-Stuck.ensures.spanned x ∙ or_right (is_member x old.spanned) (is_member x c.reached.result.now) (ap (is_member x) c.reached.ensures ∙ stuck.reaching.so_far.first))

-- moves between the parts, and what is kept of the parts that they enter or leave
pub make_moves-loop-i-init : goal.make_moves-loop-i-init
make_moves-loop-i-init t c =
    let ms = c.args.matroids.now in
    let parts = c.args.parts.now in
    let moves = c.args.moves.now in
    record { parts = made_none parts moves; kept = anew_none KeepsOne ms parts (all_moved parts moves) c.args.kept.now.items c.requires.kept }

pub make_moves-get-part-requires : goal.make_moves-get-part-requires
make_moves-get-part-requires t c =
    let e = parts_count test_in c.args.matroids.now c.args.parts.now c.requires.before in
    let n = c.loop-i.invariant.parts.long in
    omega (arith, c.loop-i-test.true)

pub make_moves-keep_next-requires : goal.make_moves-keep_next-requires
make_moves-keep_next-requires t c =
    let ms = c.args.matroids.now in
    let parts = c.args.parts.now in
    let moves = c.args.moves.now in
    let new = all_moved parts moves in
    let i = c.loop-i.i in
    let m = c.index-matroids-i.result in
    let part = c.get-part.result.now in
    let within = c.loop-i-test.true in
    let so = c.loop-i.invariant.parts in
    let l : i < length parts = (let e = parts_count test_in ms parts c.requires.before in omega (arith, within)) in
    let old = c.get-part.ensures.item ∙ so.left i (omega arith) in
    let next = made_part parts moves i c.loop-i.parts part c.in_ok-next.next so c.get-part.ensures.item c.in_ok-next.ensures.set ∙ sym (all_moved_at parts moves i l) in (
      search (rules, the_lemmas),
      (
        (sound_at elements_in IsSoundOne (size_in ms) ms c.requires.joined.each i m within c.index-matroids-i.is).0,
        (
          part_passes test_in ms parts c.requires.before i m part within c.index-matroids-i.is old,
          (
            anew_at KeepsOne ms parts new i c.loop-i.kept.items m part c.index.result.now c.loop-i.invariant.kept within c.index-matroids-i.is old c.index.ensures,
            part_passes test_in ms new c.requires.after i m c.in_ok-next.next within c.index-matroids-i.is next,
          ),
        ),
      ),
    )

pub make_moves-replace-requires : goal.make_moves-replace-requires
make_moves-replace-requires t c =
    let e = parts_count test_in c.args.matroids.now c.args.parts.now c.requires.before in
    let n = c.loop-i.invariant.parts.long in
    omega (arith, c.loop-i-test.true)

pub make_moves-loop-i-preserved : goal.make_moves-loop-i-preserved
make_moves-loop-i-preserved t c =
    let ms = c.args.matroids.now in
    let parts = c.args.parts.now in
    let moves = c.args.moves.now in
    let new = all_moved parts moves in
    let i = c.loop-i.i in
    let now = c.loop-i.parts in
    let so = c.loop-i.invariant.parts in
    let l : i < length parts = (let e = parts_count test_in ms parts c.requires.before in omega (arith, c.loop-i-test.true)) in
    let at = all_moved_at parts moves i l in
    elim c.if-is_entered_or_left.branch [
      | make_moves-then-is_entered_or_left+in_ok-next+in_ok-one w ↦
          (let next = made_part parts moves i now c.get-part.result.now w.in_ok-next.next so c.get-part.ensures.item w.in_ok-next.ensures.set in
          record {
            parts = subst (AreMadeSo parts moves (i + 1)) (sym (w.parts-is ∙ w.replace.ensures.items)) (made_set parts moves i now w.in_ok-next.next so l next);
            kept = rw w.kept-is (subst (AreKeptAnew KeepsOne ms parts new (i + 1)) (sym w.put_kept.ensures)
                (anew_set KeepsOne ms parts new i c.loop-i.kept.items w.index-matroids-i.result w.in_ok-next.next w.in_ok-one.one c.loop-i.invariant.kept c.loop-i-test.true w.index-matroids-i.is (next ∙ sym at) w.in_ok-one.ensures));
          })
      | make_moves-else-is_entered_or_left w ↦
          (let stays = part_stays parts moves i now c.get-part.result.now so c.get-part.ensures.item c.get-part.ensures.rises (sym c.is_entered_or_left.ensures ∙ w.if-is_entered_or_left.false) in
          record {
            parts = subst (AreMadeSo parts moves (i + 1)) (sym w.parts-is) (made_same parts moves i now so stays);
            kept = rw w.kept-is (anew_same KeepsOne ms parts new i c.loop-i.kept.items (part_at new i) (part_at parts i) c.loop-i.invariant.kept refl refl (at ∙ stays));
          })
    ]

pub make_moves-returns-clause-parts : goal.make_moves-returns-clause-parts
make_moves-returns-clause-parts t c =
    let e = parts_count test_in c.args.matroids.now c.args.parts.now c.requires.before in
    made_end c.args.parts.now c.args.moves.now c.loop-i.i c.loop-i.parts (omega (arith, c.loop-i-test.false)) c.loop-i.invariant.parts

pub make_moves-returns-clause-kept : goal.make_moves-returns-clause-kept
make_moves-returns-clause-kept t c =
    let ms = c.args.matroids.now in
    let parts = c.args.parts.now in
    let moves = c.args.moves.now in
    let e = parts_count test_in ms parts c.requires.before in
    subst (λ now. AreKept KeepsOne ms now c.loop-i.kept.items) (sym (made_end parts moves c.loop-i.i c.loop-i.parts (omega (arith, c.loop-i-test.false)) c.loop-i.invariant.parts))
    (anew_end KeepsOne ms parts (all_moved parts moves) c.loop-i.i c.loop-i.kept.items (omega (arith, c.loop-i-test.false)) c.loop-i.invariant.kept)
