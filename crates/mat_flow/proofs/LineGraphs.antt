-- The line graph: where its arcs lead; its paths are walks of the graph; and what its residual graph reaches cuts off the end where it has no
-- goal: of the arcs that enter the other vertices each is reached and is before no reached one.
use Rattle.mat_flow.proofs.Common.{if◌then◌else◌, ◌≡◌, ℕ, ◌+◌, ◌<◌, ◌≤◌, Bool, true, false, not, ◌&&◌, ◌||◌, eqb, ltb, List, [], ◌∷◌, ◌++◌, length, Option, Some, None, inl, inr, refl, sym, ap, ◌∙◌, subst, arith, and_from, and_parts, both_ways, cases_Bool, cases_eq, eq-eqb, eqb-true}
use Rattle.mat_flow.proofs.Common.{false_from_ne_true, false≢true, lt-ltb, ne_eqb, not-true, or_cases, or_from, or_left, or_parts, or_right, and_right, All-weaker, entering, DirectedWalk, all_below, is_member, IsRising, IsSet, IsSubset, IsReachedSet, below_member, is_member-all_below}
use Rattle.mat_flow.proofs.Common.{IsRising-all_below, is_member-filter, is_member-head, is_member-those_below, length-subset, AreArcPaths, IsArcCut, IsArcPath, arcs_from, arcs_to, is_head_there, is_passed, line_arcs, line_rows, pairs_with, IsLeftOut, entry_at, is_before, is_member_there, leads_to}
use Rattle.mat_flow.proofs.Common.{one_if_none, residual_arc, residual_goal, starts_among, starts_in, IsLinkTable, has_arc, last_of, AreDisjointPaths, IsPath, IsPathBetween, is_member-entering, IsRising-entering, eqb-turned, or_assoc}
use Rattle.std.proofs.Math.Seq.{take-length}
use Rattle.std.specs.List.{filter}
use Rattle.mat_sets.proofs.Filters.{IsRising-filter}
use Rattle.mat_flow.proofs.Frontiers.{is_before_gives, cut_so_far}
use Rattle.mat_flow.proofs.PathsOfTables.{starts_of_all}
use Rattle.mat_flow.proofs.Separators.{before_reached}

-- ---- where its arcs lead

has_arc-append : (xs ys : List (ℕ × ℕ)) (u v : ℕ) → has_arc (xs ++ ys) u v ≡ (has_arc xs u v || has_arc ys u v)
has_arc-append [] ys u v = refl
has_arc-append (x ∷ xs) ys u v = rw (has_arc-append xs ys u v) (or_assoc (eqb x.0 u && eqb x.1 v) (has_arc xs u v) (has_arc ys u v))

has_arc-pairs : (a : ℕ) (bs : List ℕ) (u v : ℕ) → has_arc (pairs_with a bs) u v ≡ (eqb u a && is_member v bs)
has_arc-pairs a [] u v = none (eqb u a)
  where
    none : (b : Bool) → false ≡ (b && false)
    none true = refl
    none false = refl
has_arc-pairs a (b ∷ bs) u v = rw (has_arc-pairs a bs u v, eqb-turned a u, eqb-turned b v) (sides (eqb u a) (eqb v b) (is_member v bs))
  where
    sides : (x y z : Bool) → ((x && y) || (x && z)) ≡ (x && (y || z))
    sides true y z = refl
    sides false y z = refl

module _ (ends : ℕ → ℕ × ℕ) (live : List ℕ) where
  pub is_member-arcs_from : (v a : ℕ) → is_member a (arcs_from ends live v) ≡ (is_member a live && eqb (ends a).0 v)
  unfolding arcs_from
  is_member-arcs_from v a = is_member-filter (λ b. eqb (ends b).0 v) a live

  has_arc-rows : (arcs : List ℕ) (u v : ℕ) → has_arc (line_rows ends live arcs) u v ≡ (is_member u arcs && is_member v (arcs_from ends live (ends u).1))
  has_arc-rows [] u v = refl
  has_arc-rows (a ∷ arcs) u v =
      has_arc-append (pairs_with a (arcs_from ends live (ends a).1)) (line_rows ends live arcs) u v
      ∙ rw (has_arc-pairs a (arcs_from ends live (ends a).1) u v, has_arc-rows arcs u v) (elim (cases_eq u a) [
        | inl e ↦ (let h = eq-eqb u a e in subst (λ z. ((eqb u a && is_member v (arcs_from ends live (ends z).1)) || (is_member u arcs && is_member v (arcs_from ends live (ends u).1)))
            ≡ ((eqb u a || is_member u arcs) && is_member v (arcs_from ends live (ends u).1))) e (sides (eqb u a) (is_member u arcs) (is_member v (arcs_from ends live (ends u).1))))
        | inr d ↦ rw (ne_eqb u a d) refl
      ])
    where
      sides : (x y z : Bool) → ((x && z) || (y && z)) ≡ ((x || y) && z)
      sides true true true = refl
      sides true true false = refl
      sides true false true = refl
      sides true false false = refl
      sides false y z = refl

  pub has_arc-line : (count u v : ℕ) → has_arc (line_arcs ends count live) u v ≡ (ltb u count && (is_member v live && eqb (ends v).0 (ends u).1))
  unfolding line_arcs
  has_arc-line count u v = has_arc-rows (all_below count) u v
      ∙ ap (λ b. b && is_member v (arcs_from ends live (ends u).1)) (is_member-all_below u count)
      ∙ ap (λ b. ltb u count && b) (is_member-arcs_from (ends u).1 v)

  pub is_member-arcs_to : (count v a : ℕ) → is_member a (arcs_to ends count v) ≡ (ltb a count && eqb (ends a).1 v)
  unfolding arcs_to
  is_member-arcs_to count v a = is_member-those_below a count (λ b. eqb (ends b).1 v)

  -- ---- its paths are walks

  -- an arc of the line graph: the second arc is live and leaves the head of the first
  line_arc : (count u v : ℕ) → has_arc (line_arcs ends count live) u v ≡ true → (is_member v live ≡ true) × ((ends v).0 ≡ (ends u).1)
  line_arc count u v h =
      let p = and_parts (ltb u count) _ (sym (has_arc-line count u v) ∙ h) in
      let q = and_parts (is_member v live) (eqb (ends v).0 (ends u).1) p.1 in
      (q.0, eqb-true (ends v).0 (ends u).1 q.1)

  line_walk : (count to a : ℕ) (path : List ℕ) → IsPath (line_arcs ends count live) (a ∷ path) → (ends (last_of (a ∷ path))).1 ≡ to
      → DirectedWalk ends (a ∷ path) (ends a).0 to
  line_walk count to a [] p e = (refl, e)
  line_walk count to a (b ∷ path) p e =
      (refl, subst (λ v. DirectedWalk ends (b ∷ path) v to) (line_arc count a b p.0).1 (line_walk count to b path p.1 e))

  line_live : (count a : ℕ) (path : List ℕ) → IsPath (line_arcs ends count live) (a ∷ path) → is_member a live ≡ true
      → (x : ℕ) → is_member x (a ∷ path) ≡ true → is_member x live ≡ true
  line_live count a [] p m x h = elim (or_cases (eqb x a) false h) [
    | inl same ↦ subst (λ z. is_member z live ≡ true) (sym (eqb-true x a same)) m
    | inr none ↦ absurd (false≢true none)
  ]
  line_live count a (b ∷ path) p m x h = elim (or_cases (eqb x a) _ h) [
    | inl same ↦ subst (λ z. is_member z live ≡ true) (sym (eqb-true x a same)) m
    | inr later ↦ line_live count b path p.1 (line_arc count a b p.0).0 x later
  ]

  IsArcPath-line : (count from to : ℕ) (path : List ℕ)
      → IsPathBetween (line_arcs ends count live) (arcs_from ends live from) (arcs_to ends count to) path → IsArcPath ends live from to path
  IsArcPath-line count from to [] p = absurd p.joined
  IsArcPath-line count from to (a ∷ path) p =
      let start = and_parts (is_member a live) (eqb (ends a).0 from) (sym (is_member-arcs_from from a) ∙ p.starts) in
      let end = and_parts (ltb (last_of (a ∷ path)) count) _ (sym (is_member-arcs_to count to (last_of (a ∷ path))) ∙ p.ends) in
      record {
        walk = subst (λ v. DirectedWalk ends (a ∷ path) v to) (eqb-true (ends a).0 from start.1)
            (line_walk count to a path p.joined (eqb-true _ to end.1));
        inside = record { inside = line_live count a path p.joined start.0 };
      }

  pub AreArcPaths-line : (count from to want : ℕ) (paths : List (List ℕ))
      → AreDisjointPaths (line_arcs ends count live) (arcs_from ends live from) (arcs_to ends count to) paths → length paths ≡ want
      → AreArcPaths ends live from to want paths
  AreArcPaths-line count from to want paths d l = record {
    many = l;
    each = All-weaker (IsPathBetween (line_arcs ends count live) (arcs_from ends live from) (arcs_to ends count to)) (IsArcPath ends live from to)
        (IsArcPath-line count from to) paths d.each;
    distinct = d.distinct;
  }

-- ---- how many paths there are

abbrev is_none : Option ℕ → Bool
is_none None = true
is_none (Some u) = false

-- those that have none before them, as a filter
abbrev starts_list : List (Option ℕ) → List ℕ → List ℕ
starts_list before vs = filter (λ v. is_none (entry_at before v)) vs

starts_among-list : (before : List (Option ℕ)) (vs : List ℕ) → starts_among before vs ≡ length (starts_list before vs)
starts_among-list before [] = refl
starts_among-list before (v ∷ vs) = one (entry_at before v) (starts_among-list before vs)
  where
    one : (entry : Option ℕ) → starts_among before vs ≡ length (filter (λ w. is_none (entry_at before w)) vs)
        → one_if_none entry + starts_among before vs
        ≡ length (if is_none entry then v ∷ filter (λ w. is_none (entry_at before w)) vs else filter (λ w. is_none (entry_at before w)) vs)
    one None e = omega arith
    one (Some u) e = omega arith

is_member-starts_list : (before : List (Option ℕ)) (vs : List ℕ) (x : ℕ) → is_member x (starts_list before vs) ≡ (is_member x vs && is_none (entry_at before x))
is_member-starts_list before vs x = is_member-filter (λ v. is_none (entry_at before v)) x vs

IsRising-starts_list : (before : List (Option ℕ)) (vs : List ℕ) → IsRising vs → IsRising (starts_list before vs)
IsRising-starts_list before vs r = IsRising-filter (λ v. is_none (entry_at before v)) vs r

-- a part of some vertices that has all their starts has as many
pub starts_among-le : (before : List (Option ℕ)) (vs ws : List ℕ) → IsRising vs → IsRising ws
    → ((x : ℕ) → is_member x vs ≡ true → entry_at before x ≡ None → is_member x ws ≡ true) → starts_among before vs ≤ starts_among before ws
starts_among-le before vs ws r s h =
    let inside : IsSubset (starts_list before vs) (starts_list before ws) = record {
      inside = λ x m. let p = and_parts (is_member x vs) _ (sym (is_member-starts_list before vs x) ∙ m) in
          is_member-starts_list before ws x ∙ and_from _ _ (h x p.0 (none_there (entry_at before x) p.1)) p.1;
    } in
    omega (
      arith,
      starts_among-list before vs,
      starts_among-list before ws,
      length-subset (starts_list before vs) (starts_list before ws) (IsRising-starts_list before vs r) (IsRising-starts_list before ws s) inside,
    )
  where
    none_there : (entry : Option ℕ) → is_none entry ≡ true → entry ≡ None
    none_there None h = refl
    none_there (Some u) h = absurd (false≢true h)

-- ---- the cut

module _ (vertices count : ℕ) (ends : ℕ → ℕ × ℕ) (live : List ℕ) (from to : ℕ) (before : List (Option ℕ)) (reached : List ℕ)
    (live_set : IsSet count live) (tails : (a : ℕ) → a < count → (ends a).0 < vertices)
    (t : IsLinkTable count (line_arcs ends count live) (arcs_from ends live from) (arcs_to ends count to) before)
    (reach : IsReachedSet count (residual_arc (line_arcs ends count live) before) (λ a. is_member a (arcs_from ends live from)) reached)
    (missed : (a : ℕ) → is_member a reached ≡ true → residual_goal (arcs_to ends count to) before a ≡ false) where
  passed_gives : (vs : List ℕ) (x : ℕ) → is_passed ends before vs x ≡ true
      → (v u : ℕ) × (is_member v vs ≡ true) × (entry_at before v ≡ Some u) × (x ≡ (ends u).1)
  passed_gives [] x h = absurd (false≢true h)
  passed_gives (v ∷ vs) x h = elim (or_cases (is_head_there ends x (entry_at before v)) (is_passed ends before vs x) h) [
    | inl here ↦ there (entry_at before v) refl here
    | inr later ↦ (let w = passed_gives vs x later in (w.0, w.1, or_right (eqb w.0 v) _ w.2, w.3, w.4))
  ]
    where
      there : (entry : Option ℕ) → entry_at before v ≡ entry → is_head_there ends x entry ≡ true
          → (w u : ℕ) × (is_member w (v ∷ vs) ≡ true) × (entry_at before w ≡ Some u) × (x ≡ (ends u).1)
      there None e h = absurd (false≢true h)
      there (Some u) e h = (v, u, is_member-head v vs, e, eqb-true x (ends u).1 h)

  passed_from : (vs : List ℕ) (v u : ℕ) → is_member v vs ≡ true → entry_at before v ≡ Some u → is_passed ends before vs (ends u).1 ≡ true
  passed_from [] v u m e = absurd (false≢true m)
  passed_from (w ∷ vs) v u m e = elim (or_cases (eqb v w) (is_member v vs) m) [
    | inl same ↦ or_left _ _ (ap (λ z. is_head_there ends (ends u).1 (entry_at before z)) (sym (eqb-true v w same))
        ∙ ap (is_head_there ends (ends u).1) e ∙ eq-eqb (ends u).1 (ends u).1 refl)
    | inr later ↦ or_right _ _ (passed_from vs v u later e)
  ]

  -- a live arc that leaves a passed vertex or the start is reached
  reached_next : (a : ℕ) → is_member a live ≡ true → (eqb (ends a).0 from || is_passed ends before reached (ends a).0) ≡ true
      → is_member a reached ≡ true
  reached_next a m h = elim (or_cases (eqb (ends a).0 from) (is_passed ends before reached (ends a).0) h) [
    | inl first ↦ reach.starts a (below_member live_set m) (is_member-arcs_from ends live from a ∙ and_from _ _ m first)
    | inr later ↦ (let w = passed_gives reached (ends a).0 later in
        reach.closed w.0 a w.2 (below_member live_set m) (ap (λ e. leads_to (line_arcs ends count live) e a) w.3
        ∙ or_right (eqb a w.1) _ (has_arc-line ends live count w.1 a ∙ and_from _ _ (lt-ltb w.1 count (t.below w.0 w.1 w.3))
        (and_from _ _ m (eq-eqb (ends a).0 (ends w.1).1 w.4)))))
  ]

  pub IsArcCut-reached : (want : ℕ) (cut : List ℕ) → from < vertices → to < vertices → (from ≡ to → ⊥) → IsSet vertices cut
      → IsLeftOut vertices ends from before reached cut → starts_in before < want → IsArcCut vertices ends live from to want cut
  IsArcCut-reached want cut from_below to_below differ set out less =
      let rising = reach.set.rising in
      let c = cut_so_far before reached rising t.once (before_reached count (line_arcs ends count live) (arcs_from ends live from) (arcs_to ends count to) before reached reach t.below)
      (length reached) (omega arith) in
      let frontier = c.0 in
      let inside : IsSubset (entering ends live cut) frontier = record {
        inside = λ a m.
            let p = and_parts (is_member a live) _ (sym (is_member-entering ends a live cut) ∙ m) in
            let q = and_parts (is_member (ends a).1 cut) (not (is_member (ends a).0 cut)) p.1 in
            let tail = ends_out (ends a).0 (tails a (below_member live_set p.0)) (not-true _ q.1) in
            let here = reached_next a p.0 tail in
            let not_before : is_before before reached a ≡ false = false_from_ne_true _ (λ h.
            let w = is_before_gives before reached a h in
            let r = and_parts (ltb (ends a).1 vertices) _ (sym (out.members (ends a).1) ∙ q.0) in
            both_ways _ (or_parts (eqb (ends a).1 from) _ (not-true _ r.1)).1 (passed_from reached w.0 a w.1 w.2)) in
            c.1.members a ∙ and_from _ _ here (ap not (ap (λ l. is_before before l a) (take-length reached) ∙ not_before));
      } in
      let few = length-subset (entering ends live cut) frontier (IsRising-entering ends live cut live_set.rising) c.1.rises inside in
      let some = starts_among-le before reached (all_below (length before)) rising (IsRising-all_below (length before))
      (λ x m e. is_member-all_below x (length before) ∙ lt-ltb x (length before) (subst (λ n. x < n) (sym t.long) (below_member reach.set m))) in
      record {
        set = set;
        holds = out.members to ∙ and_from _ _ (lt-ltb to vertices to_below) (ap not (or_from _ _ (ne_eqb to from (λ e. differ (sym e)))
            (false_from_ne_true _ (λ h.
            let w = passed_gives reached to h in
            both_ways _ (missed w.0 w.2) (ap (λ e. is_member_there e (arcs_to ends count to)) w.3
            ∙ is_member-arcs_to ends live count to w.1 ∙ and_from _ _ (lt-ltb w.1 count (t.below w.0 w.1 w.3)) (eq-eqb (ends w.1).1 to (sym w.4)))))));
        misses = out.members from ∙ rw (eq-eqb from from refl) (and_right (ltb from vertices) false refl);
        few = omega (arith, c.1.size, ap (starts_among before) (take-length reached), starts_of_all before (length before) refl);
      }
    where
      ends_out : (x : ℕ) → x < vertices → is_member x cut ≡ false → (eqb x from || is_passed ends before reached x) ≡ true
      ends_out x l h = elim (cases_Bool (eqb x from || is_passed ends before reached x)) [
        | inl here ↦ here
        | inr not_here ↦ absurd (both_ways _ h (out.members x ∙ and_from _ _ (lt-ltb x vertices l) (ap not not_here)))
      ]
