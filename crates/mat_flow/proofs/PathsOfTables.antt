-- The paths that a table holds, as terms: the table is turned round, the paths are read from their starts one after the other, and so
-- disjoint paths lead to each end of a table. Beside them the moved entries of a walk, as a table.
use Rattle.mat_flow.proofs.Common.{◌≡◌, ℕ, zero, suc, ◌+◌, ◌<◌, ◌≤◌, ◌≢◌, List, [], ◌∷◌, ◌++◌, length, get_or, map, set, take, Option, Some, None, is_some, refl, sym, ap, ◌∙◌, subst, arith, length-map, length_push, take_all, All-nil, is_member, all_below, AllBelow, IsRising, AllBelow-member}
use Rattle.mat_flow.proofs.Common.{IsRising-all_below, IsSet-all_below, get_or-all_below, length-all_below, length-distinct, length-distinct_subset, IsRising-nil, IsRising-union, same_size_subset, AllBelow-at, entry_at, one_if_none, starts_among, starts_in, HasEnds, IsLinkTable, IsShifted, last_of}
use Rattle.mat_flow.proofs.Common.{AreDisjointPaths, HasPathsToEach, AreTrails, IsReversed, IsTrail, IsTrailAmong}
use Rattle.std.proofs.Math.Numerals.{add-one}
use Rattle.mat_flow.proofs.PathChoiceLaws.{ends_are_targets}
use Rattle.mat_flow.proofs.PathFamilyLaws.{AreDistinct-ends, ends_of, is_member-ends_of}
use Rattle.mat_flow.proofs.DisjointPaths.{AreDisjointPaths-trails, AreTrails-push, AreTrails-skip, starts_among-more}
use Rattle.mat_flow.proofs.LinkTables.{entry_inside, none_is_not_some, shifting_next, some_is_one, IsShifting, IsShifting-end}
use Rattle.mat_flow.proofs.TrailReading.{length-reading, IsReading, IsReading-next, IsReversing, IsReversing-put, IsReversing-skip}

-- ---- the moved entries of a walk

module _ (first : Option ℕ) (walk : List ℕ) (old : List (Option ℕ))
    (below : (i : ℕ) → i < length walk → get_or walk i 0 < length old)
    (differ : (i j : ℕ) → i < j → j < length walk → get_or walk i 0 ≢ get_or walk j 0) where
  shifting : (i : ℕ) → i ≤ length walk → (new : List (Option ℕ)) × (carried : Option ℕ) × IsShifting first walk old i new carried
  shifting zero l = (
    old,
    first,
    record {
      long = refl;
      moved = λ k m. absurd (omega arith);
      kept = λ v other. refl;
      carried_is = refl;
      counted = refl;
    },
  )
  shifting (suc i) l =
      let p = shifting i (omega arith) in
      let inside : get_or walk i 0 < length p.0 = (let long = p.2.long in let small = below i (omega arith) in omega arith) in
      (_, _, shifting_next first walk old i p.0 p.1 differ (omega arith) inside p.2)

  pub shifted_table : (new : List (Option ℕ)) × IsShifted first walk old new
  shifted_table = let p = shifting (length walk) (omega arith) in (p.0, IsShifting-end first walk old (length walk) p.0 p.1 refl p.2)

-- ---- the table of the vertex after each vertex

-- as many entries, all empty
abbrev emptied : List (Option ℕ) → List (Option ℕ)
emptied [] = []
emptied (entry ∷ table) = None ∷ emptied table

length-emptied : (table : List (Option ℕ)) → length (emptied table) ≡ length table
length-emptied [] = refl
length-emptied (entry ∷ table) = ap suc (length-emptied table)

entry-emptied : (table : List (Option ℕ)) (v : ℕ) → entry_at (emptied table) v ≡ None
entry-emptied (entry ∷ table) (suc v) = entry-emptied table v
entry-emptied _ v = refl

reversing : (before : List (Option ℕ)) → ((v u : ℕ) → entry_at before v ≡ Some u → u < length before) → (n : ℕ) → n ≤ length before
    → (after : List (Option ℕ)) × IsReversing before n after
reversing before below zero l = (
  emptied before,
  record {
    long = length-emptied before;
    turned = λ u v e. absurd (none_is_not_some v (sym (entry-emptied before u) ∙ e));
    none = λ u v m k e. absurd (omega arith);
  },
)
reversing before below (suc n) l = let p = reversing before below n (omega arith) in step p.0 p.1 (entry_at before n) refl
  where
    step : (after : List (Option ℕ)) → IsReversing before n after → (entry : Option ℕ) → entry_at before n ≡ entry
        → (more : List (Option ℕ)) × IsReversing before (suc n) more
    step after r None e = (after, subst (λ k. IsReversing before k after) (add-one n) (IsReversing-skip before n after e r))
    step after r (Some w) e =
        let inside : w < length after = (let long = r.long in let small = below n w e in omega arith) in
        (set after w (Some n), subst (λ k. IsReversing before k (set after w (Some n))) (add-one n) (IsReversing-put before n w after e inside r))

reversed_table : (before : List (Option ℕ)) → ((v u : ℕ) → entry_at before v ≡ Some u → u < length before)
    → (after : List (Option ℕ)) × IsReversed before after
reversed_table before below =
    let p = reversing before below (length before) (omega arith) in (
      p.0,
      record {
        long = p.1.long;
        turned = λ u v e. (p.1.turned u v e).1;
        none = λ u v l e f. p.1.none u v l (entry_inside before v u f) e f;
      },
    )

-- ---- the paths

module _ (before after : List (Option ℕ)) (r : IsReversed before after) where
  module _ (start : ℕ) (inside : start < length after) (none : entry_at before start ≡ None) where
    first : (u : ℕ) → entry_at after u ≢ Some start
    first u e = none_is_not_some u (sym none ∙ r.turned u start e)

    once : (u w v : ℕ) → entry_at after u ≡ Some v → entry_at after w ≡ Some v → u ≡ w
    once u w v e f = some_is_one u w (sym (r.turned u v e) ∙ r.turned w v f)

    below : (u v : ℕ) → entry_at after u ≡ Some v → v < length after
    below u v e = let l = entry_inside before v u (r.turned u v e) in let long = r.long in omega arith

    reading : (fuel : ℕ) (path : List ℕ) (at : ℕ) → IsReading after start path at → length after < length path + fuel
        → (trail : List ℕ) × IsTrail after start trail
    reading zero path at i l =
        absurd (let few = length-reading after start first once inside below path at i in omega arith)
    reading (suc fuel) path at i l = step (entry_at after at) refl (λ next e.
        reading fuel (path ++ next ∷ []) next (IsReading-next after start path at next e i) (let more = length_push path next in omega arith))
      where
        step : (entry : Option ℕ) → entry_at after at ≡ entry
            → ((next : ℕ) → entry_at after at ≡ Some next → (trail : List ℕ) × IsTrail after start trail)
            → (trail : List ℕ) × IsTrail after start trail
        step None e on = (path, record { some = i.some; first = i.first; steps = i.steps; last = λ k m. ap (entry_at after) (i.here k m) ∙ e })
        step (Some next) e on = on next e

    trail_from : (trail : List ℕ) × IsTrail after start trail
    trail_from = reading (length after) (start ∷ []) start
        (record { some = omega arith; first = refl; steps = λ i l. absurd (omega arith); here = here }) (omega arith)
      where
        here : (i : ℕ) → suc i ≡ 1 → get_or (start ∷ []) i 0 ≡ start
        here zero e = refl
        here (suc i) e = absurd (omega arith)

  trails_up_to : (among : List ℕ) → IsRising among → AllBelow (length before) among → (i : ℕ) → i ≤ length among
      → (paths : List (List ℕ)) × AreTrails before after (take i among) paths
  trails_up_to among rises inside zero l = ([], record { each = All-nil (IsTrailAmong before after []); distinct = tt; count = refl })
  trails_up_to among rises inside (suc i) l =
      let p = trails_up_to among rises inside i (omega arith) in step p.0 p.1 (entry_at before (get_or among i 0)) refl
    where
      step : (paths : List (List ℕ)) → AreTrails before after (take i among) paths → (entry : Option ℕ)
          → entry_at before (get_or among i 0) ≡ entry
          → (more : List (List ℕ)) × AreTrails before after (take (suc i) among) more
      step paths t (Some u) e = (
        paths,
        subst (λ k. AreTrails before after (take k among) paths) (add-one i)
            (AreTrails-skip before after among i paths (omega arith) (ap is_some e) t),
      )
      step paths t None e =
          let small = AllBelow-at (length before) among i inside (omega arith) in
          let q = trail_from (get_or among i 0) (let long = r.long in omega arith) e in (
            paths ++ q.0 ∷ [],
            subst (λ k. AreTrails before after (take k among) (paths ++ q.0 ∷ [])) (add-one i)
                (AreTrails-push before after among i paths q.0 r rises (omega arith) e q.1 t),
          )

  trails_among : (among : List ℕ) → IsRising among → AllBelow (length before) among
      → (paths : List (List ℕ)) × AreTrails before after among paths
  trails_among among rises inside =
      let p = trails_up_to among rises inside (length among) (omega arith) in
      (p.0, subst (λ vs. AreTrails before after vs p.0) (take_all (length among) among (omega arith)) p.1)

-- ---- how many start

starts_in-more : (before : List (Option ℕ)) (i : ℕ) → i < length before
    → starts_in (take (suc i) before) ≡ starts_in (take i before) + one_if_none (entry_at before i)
starts_in-more [] i l = absurd (omega arith)
starts_in-more (entry ∷ before) zero l = omega arith
starts_in-more (entry ∷ before) (suc i) l = let rest = starts_in-more before i (omega arith) in omega arith

starts_up_to : (before : List (Option ℕ)) (n : ℕ) → length before ≡ n → (i : ℕ) → i ≤ n
    → starts_among before (take i (all_below n)) ≡ starts_in (take i before)
starts_up_to before n long zero l = refl
starts_up_to before n long (suc i) l =
    let size = length-all_below n in
    let more = starts_among-more before (all_below n) i (omega arith) in
    let here = ap (λ v. one_if_none (entry_at before v)) (get_or-all_below n i 0 (omega arith)) in
    let one = starts_in-more before i (omega arith) in
    let rest = starts_up_to before n long i (omega arith) in
    let same : starts_among before (take (i + 1) (all_below n)) ≡ starts_in (take (suc i) before) = omega arith in
    subst (λ k. starts_among before (take k (all_below n)) ≡ starts_in (take (suc i) before)) (add-one i) same

-- in the whole table
pub starts_of_all : (before : List (Option ℕ)) (n : ℕ) → length before ≡ n → starts_among before (all_below n) ≡ starts_in before
starts_of_all before n long =
    let all = starts_up_to before n long n (omega arith) in
    sym (ap (starts_among before) (take_all n (all_below n) (omega (arith, length-all_below n)))) ∙ all
    ∙ ap starts_in (take_all n before (omega arith))

-- ---- the paths of a table

module _ (vertices : ℕ) (arcs : List (ℕ × ℕ)) (sources ends : List ℕ) (before : List (Option ℕ))
    (t : IsLinkTable vertices arcs sources ends before) where
  -- disjoint paths, as many as those of these vertices that have none before them
  pub record PathsAmong (among : List ℕ) : Type 0 where
    pub paths : List (List ℕ)
    pub disjoint : AreDisjointPaths arcs sources ends paths
    pub count : length paths ≡ starts_among before among

  pub paths_among : (among : List ℕ) → IsRising among → AllBelow vertices among → PathsAmong among
  paths_among among rises inside =
      let after = reversed_table before (λ v u e. (let long = t.long in let small = t.below v u e in omega arith)) in
      let p = trails_among before after.0 after.1 among rises (subst (λ n. AllBelow n among) (sym t.long) inside) in
      record {
        paths = p.0;
        disjoint = AreDisjointPaths-trails vertices arcs sources ends before after.0 t after.1 among p.0 (λ v m. AllBelow-member vertices among v inside m) p.1;
        count = p.1.count;
      }

  -- at most as many have none before them as there are ends
  pub starts_at_most : IsRising ends → (among : List ℕ) → IsRising among → AllBelow vertices among → starts_among before among ≤ length ends
  starts_at_most rises among rising inside =
      let p = paths_among among rising inside in
      let few = length-distinct_subset (map last_of p.paths) ends (AreDistinct-ends arcs sources ends p.paths p.disjoint) rises
      (record { inside = ends_are_targets arcs sources ends p.paths p.disjoint.each }) in
      omega (arith, few, length-map p.paths last_of, p.count)

-- disjoint paths lead to each end of a table
pub paths_to_ends : (vertices : ℕ) (arcs : List (ℕ × ℕ)) (sources ends : List ℕ) (before : List (Option ℕ))
    → HasEnds vertices arcs sources ends before → HasPathsToEach arcs sources ends
paths_to_ends vertices arcs sources ends before h =
    let p = paths_among vertices arcs sources ends before h.table (all_below vertices) (IsRising-all_below vertices) (IsSet-all_below vertices).below in
    let distinct = AreDistinct-ends arcs sources ends p.paths p.disjoint in
    let size = length-distinct (map last_of p.paths) distinct in
    let same = same_size_subset (ends_of p.paths) ends (IsRising-union (map last_of p.paths) [] IsRising-nil) h.set.rising
    (record { inside = λ w k. ends_are_targets arcs sources ends p.paths p.disjoint.each w (sym (is_member-ends_of w p.paths) ∙ k) })
    (omega (arith, length-map p.paths last_of, size, p.count, starts_of_all before vertices h.table.long, h.count)) in
    record {
      paths = p.paths;
      disjoint = p.disjoint;
      reached = λ v m. sym (is_member-ends_of v p.paths) ∙ ap (is_member v) same ∙ m;
    }
