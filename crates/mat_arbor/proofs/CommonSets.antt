-- A set of one arc fewer than there are vertices is a spanning arborescence exactly where it is a forest without directions that enters
-- each vertex at most once, and the root never.
-- Idea, from common sets: let U be what the root does not reach along the set. At most |V| - |U| - 1 arcs enter the other vertices, since
-- none enters the root, and fewer than |U| enter U, since they lie inside U and are a forest. Together these are too few.
-- Idea, to common sets: each vertex but the root is entered, so that no arc is left to enter one twice, or the root; and the arcs join all
-- vertices, so that they are a forest.
use Rattle.mat_arbor.proofs.Common.{◌≡◌, ◌≢◌, ℕ, suc, zero, ◌<◌, ◌≤◌, Bool, true, false, not, ◌&&◌, ◌||◌, eqb, List, [], ◌∷◌, length, get_or, ◌⊎◌, inl, inr, refl, sym, ap, ◌∙◌, subst, arith, cases_Bool, cases_eq, eqb-true, eqb-false, eq-eqb, ne_eqb, ltb-true, lt-ltb, and_parts, and_from, both_ways}
use Rattle.mat_arbor.proofs.Common.{false_from_ne_true, not-true, or_cases, or_left, or_right, false≢true, is_member, IsRising, IsSet, IsSubset, all_below, minus, without_one, DirectedWalk, IsSpanningArborescence, Reaches, Walk, length-minus_subset, length-without_one, IsRising-filter}
use Rattle.mat_arbor.proofs.Common.{IsRising-all_below, below_member, is_member-all_below, length-all_below, length-complement, IsRising-minus, IsRising-without_one, is_member-filter, is_member-head, is_member-minus, is_member-without_one, length-covered, length-one_to_one, IsForest, is_graphic}
use Rattle.mat_arbor.proofs.Common.{IsForest-subset, AreEndsBelow, length-forest_inside, spanning_forest, EntersOnce, cap_at, head_of, is_entering_once}
use Rattle.mat_sets.specs.Walks.{IsReachedSet, IsWalk}
use Rattle.std.specs.List.{filter}
use Rattle.mat_sets.proofs.ListParts.{is_member-tail}
use Rattle.mat_sets.proofs.Reach.{reached_set_exists}
use Rattle.mat_sets.proofs.Walking.{Reaches-arc, Reaches-itself, Reaches-trans}
use Rattle.mat_count.proofs.LabelClasses.{labelled_set, labelled_apart, labelled_none, labelled_from}
use Rattle.mat_graphic.specs.Mergings.{least_merged}
use Rattle.mat_graphic.specs.ComponentLaws.{member_within, walk_same}

-- ---- at most one arc into each vertex, as a matroid and in words

pub cap_root : (root v : ℕ) → v ≡ root → cap_at root v ≡ 0
cap_root root v e = rw (eq-eqb v root e) refl

pub cap_other : (root v : ℕ) → v ≢ root → cap_at root v ≡ 1
cap_other root v d = rw (ne_eqb v root d) refl

cap_most : (root v : ℕ) → cap_at root v ≤ 1
cap_most root v = elim (cases_eq v root) [ inl e ↦ omega (arith, cap_root root v e) | inr d ↦ omega (arith, cap_other root v d) ]

-- the heads of the arcs below n are vertices
abbrev pub AreHeadsBelow : ℕ → ℕ → (ℕ → ℕ × ℕ) → Type 0
AreHeadsBelow n vertices ends = (a : ℕ) → a < n → (ends a).1 < vertices

module _ (n vertices : ℕ) (ends : ℕ → ℕ × ℕ) (root : ℕ) (heads : AreHeadsBelow n vertices ends) (X : List ℕ) where
  pub IsSet-entering_once : is_entering_once n vertices ends root X ≡ true → IsSet n X
  IsSet-entering_once h = labelled_set n vertices (head_of ends) (cap_at root) X h

  pub EntersOnce-from_test : is_entering_once n vertices ends root X ≡ true → EntersOnce ends root X
  EntersOnce-from_test h =
      let s = IsSet-entering_once h in
      record {
        no_root = λ a m same. labelled_none n vertices (head_of ends) (cap_at root) X h a m (heads a (below_member s m))
            (cap_root root (ends a).1 same);
        once = λ a b m o same. labelled_apart n vertices (head_of ends) (cap_at root) X h a b m o (heads a (below_member s m))
            (cap_most root (ends a).1) same;
      }

  pub test_from-EntersOnce : IsSet n X → EntersOnce ends root X → is_entering_once n vertices ends root X ≡ true
  test_from-EntersOnce s e =
      labelled_from n vertices (head_of ends) (cap_at root) X s (record { apart = e.once })
      (λ a m l. omega (arith, cap_other root (ends a).1 (e.no_root a m)))

-- ---- steps along a set of arcs

-- whether an arc of the list leads from u to v
unfoldable pub leads : (ℕ → ℕ × ℕ) → List ℕ → ℕ → ℕ → Bool
leads ends [] u v = false
leads ends (a ∷ arcs) u v = (eqb (ends a).0 u && eqb (ends a).1 v) || leads ends arcs u v

leads-gives : (ends : ℕ → ℕ × ℕ) (arcs : List ℕ) (u v : ℕ) → leads ends arcs u v ≡ true
    → (a : ℕ) × (is_member a arcs ≡ true) × ((ends a).0 ≡ u) × ((ends a).1 ≡ v)
unfolding leads
leads-gives ends [] u v h = absurd (false≢true h)
leads-gives ends (a ∷ arcs) u v h = elim (or_cases (eqb (ends a).0 u && eqb (ends a).1 v) (leads ends arcs u v) h) [
  | inl here ↦ (let p = and_parts (eqb (ends a).0 u) (eqb (ends a).1 v) here in (a, is_member-head a arcs, eqb-true _ _ p.0, eqb-true _ _ p.1))
  | inr later ↦ (let w = leads-gives ends arcs u v later in (w.0, is_member-tail w.0 a arcs w.1, w.2, w.3))
]

leads-from : (ends : ℕ → ℕ × ℕ) (arcs : List ℕ) (a : ℕ) → is_member a arcs ≡ true → leads ends arcs (ends a).0 (ends a).1 ≡ true
unfolding leads
leads-from ends [] a m = absurd (false≢true m)
leads-from ends (b ∷ arcs) a m = elim (or_cases (eqb a b) (is_member a arcs) m) [
  | inl same ↦ or_left _ (leads ends arcs (ends a).0 (ends a).1)
      (and_from _ _ (eq-eqb _ _ (ap (λ z. (ends z).0) (sym (eqb-true a b same)))) (eq-eqb _ _ (ap (λ z. (ends z).1) (sym (eqb-true a b same)))))
  | inr later ↦ or_right (eqb (ends b).0 (ends a).0 && eqb (ends b).1 (ends a).1) _ (leads-from ends arcs a later)
]

-- what a walk by steps reaches, arcs reach
walk_reaches : (vertices : ℕ) (ends : ℕ → ℕ × ℕ) (arcs : List ℕ) (root : ℕ) (goal : ℕ → Bool) (walk : List ℕ)
    → IsWalk vertices (leads ends arcs) (λ v. eqb v root) goal walk → (i : ℕ) → i < length walk → Reaches ends arcs root (get_or walk i 0)
walk_reaches vertices ends arcs root goal walk w zero l =
    subst (λ z. Reaches ends arcs root z) (sym (eqb-true _ _ w.first)) (Reaches-itself ends arcs root)
walk_reaches vertices ends arcs root goal walk w (suc i) l =
    let step = leads-gives ends arcs (get_or walk i 0) (get_or walk (suc i) 0) (w.steps i l) in
    let before = walk_reaches vertices ends arcs root goal walk w i (omega arith) in
    Reaches-trans ends arcs root (ends step.0).0 (get_or walk (suc i) 0) (subst (λ z. Reaches ends arcs root z) (sym step.2) before)
    (subst (λ z. Reaches ends arcs (ends step.0).0 z) step.3 (Reaches-arc ends arcs step.0 step.1))

-- ---- from common sets to arborescences

module _ (n vertices : ℕ) (ends : ℕ → ℕ × ℕ) (root : ℕ) (small : root < vertices) (X : List ℕ) (s : IsSet n X)
    (below : AreEndsBelow ends vertices X) where
  reached_by_set : (R : List ℕ) → IsReachedSet vertices (leads ends X) (λ v. eqb v root) R → (v : ℕ) → is_member v R ≡ true → Reaches ends X root v
  reached_by_set R r v m =
      let w = r.walks v m in
      let long = w.1.long in
      subst (λ z. Reaches ends X root z) (eqb-true _ _ w.1.last)
      (walk_reaches vertices ends X root (λ u. eqb u v) w.0 w.1 w.1.arcs (omega arith))

  -- where R holds the root and all arcs from it, U is not empty and is the rest, X has fewer than suc |U| + |R| arcs
  too_few : (R : List ℕ) → IsReachedSet vertices (leads ends X) (λ v. eqb v root) R → IsForest ends X → EntersOnce ends root X
      → 0 < length (minus (all_below vertices) R) → suc (length X) < vertices
  too_few R r forest enters some =
      let U = minus (all_below vertices) R in
      let enters_U = filter (λ a. is_member (ends a).1 U) X in
      let others = minus X enters_U in
      let rising_U : IsRising U = IsRising-minus (all_below vertices) R (IsRising-all_below vertices) in
      let rising_in : IsRising enters_U = IsRising-filter (λ a. is_member (ends a).1 U) X s.rising in
      let part : IsSubset enters_U X = record {
        inside = λ a m. (and_parts (is_member a X) (is_member (ends a).1 U) (sym (is_member-filter (λ a. is_member (ends a).1 U) a X) ∙ m)).0;
      } in
      let forest_in = IsForest-subset ends enters_U X part forest in
      let root_in : is_member root R ≡ true = r.starts root small (eq-eqb root root refl) in
      let first = length-forest_inside ends enters_U U rising_in forest_in rising_U (inside_U R r) some in
      let second = length-one_to_one (head_of ends) others (without_one R root) (IsRising-minus X enters_U s.rising)
      (IsRising-without_one R root r.set.rising) (outside_U R r enters) (λ a b m o. enters.once a b (in_X R a m) (in_X R b o)) in
      omega (
        arith,
        first,
        second,
        length-minus_subset X enters_U s.rising rising_in part,
        length-without_one R root r.set.rising root_in,
        length-complement vertices R r.set.rising r.set.below,
      )
    where
      in_U : (R : List ℕ) (v : ℕ) → is_member v (minus (all_below vertices) R) ≡ true → (v < vertices) × (is_member v R ≡ false)
      in_U R v m =
          let p = and_parts (is_member v (all_below vertices)) (not (is_member v R)) (sym (is_member-minus v (all_below vertices) R) ∙ m) in
          (ltb-true v vertices (sym (is_member-all_below v vertices) ∙ p.0), not-true _ p.1)

      to_U : (R : List ℕ) (v : ℕ) → v < vertices → is_member v R ≡ false → is_member v (minus (all_below vertices) R) ≡ true
      to_U R v l o =
          is_member-minus v (all_below vertices) R
          ∙ and_from (is_member v (all_below vertices)) (not (is_member v R)) (is_member-all_below v vertices ∙ lt-ltb v vertices l) (ap not o)

      in_X : (R : List ℕ) (a : ℕ) → is_member a (minus X (filter (λ a. is_member (ends a).1 (minus (all_below vertices) R)) X)) ≡ true
          → is_member a X ≡ true
      in_X R a m =
          let E = filter (λ a. is_member (ends a).1 (minus (all_below vertices) R)) X in
          (and_parts (is_member a X) (not (is_member a E)) (sym (is_member-minus a X E) ∙ m)).0

      inside_U : (R : List ℕ) → IsReachedSet vertices (leads ends X) (λ v. eqb v root) R → (a : ℕ)
          → is_member a (filter (λ a. is_member (ends a).1 (minus (all_below vertices) R)) X) ≡ true
          → (is_member (ends a).0 (minus (all_below vertices) R) ≡ true) × (is_member (ends a).1 (minus (all_below vertices) R) ≡ true)
      inside_U R r a m =
          let U = minus (all_below vertices) R in
          let p = and_parts (is_member a X) (is_member (ends a).1 U) (sym (is_member-filter (λ a. is_member (ends a).1 U) a X) ∙ m) in
          let own = below a p.0 in
          let out = (in_U R (ends a).1 p.1).1 in
          (to_U R (ends a).0 own.0 (false_from_ne_true _ (λ h. both_ways _ out (r.closed (ends a).0 (ends a).1 h own.1 (leads-from ends X a p.0)))), p.1)

      outside_U : (R : List ℕ) → IsReachedSet vertices (leads ends X) (λ v. eqb v root) R → EntersOnce ends root X → (a : ℕ)
          → is_member a (minus X (filter (λ a. is_member (ends a).1 (minus (all_below vertices) R)) X)) ≡ true
          → is_member (ends a).1 (without_one R root) ≡ true
      outside_U R r enters a m =
          let U = minus (all_below vertices) R in
          let E = filter (λ a. is_member (ends a).1 U) X in
          let p = and_parts (is_member a X) (not (is_member a E)) (sym (is_member-minus a X E) ∙ m) in
          let own = below a p.0 in
          let here : is_member (ends a).1 R ≡ true = elim (cases_Bool (is_member (ends a).1 R)) [
            | inl h ↦ h
            | inr o ↦ absurd (both_ways _ (not-true _ p.1) (is_member-filter (λ a. is_member (ends a).1 U) a X
                ∙ and_from (is_member a X) (is_member (ends a).1 U) p.0 (to_U R (ends a).1 own.1 o)))
          ] in
          is_member-without_one (ends a).1 root R
          ∙ and_from (is_member (ends a).1 R) (not (eqb (ends a).1 root)) here (ap not (ne_eqb _ _ (enters.no_root a p.0)))

  pub common_reaches : IsForest ends X → EntersOnce ends root X → suc (length X) ≡ vertices → (v : ℕ) → v < vertices → Reaches ends X root v
  common_reaches forest enters size v l =
      let q = reached_set_exists vertices (leads ends X) (λ v. eqb v root) in
      elim (cases_Bool (is_member v q.0)) [
        | inl m ↦ reached_by_set q.0 q.1 v m
        | inr o ↦ absurd (omega (
          arith,
          too_few q.0 q.1 forest enters (some (minus (all_below vertices) q.0)
              (is_member-minus v (all_below vertices) q.0 ∙ and_from (is_member v (all_below vertices)) (not (is_member v q.0))
              (is_member-all_below v vertices ∙ lt-ltb v vertices l) (ap not o))),
        ))
      ]
    where
      some : (U : List ℕ) → is_member v U ≡ true → 0 < length U
      some [] m = absurd (false≢true m)
      some (u ∷ U) m = omega arith

-- ---- from arborescences to common sets

directed_is_walk : (ends : ℕ → ℕ × ℕ) (arcs : List ℕ) (v w : ℕ) → DirectedWalk ends arcs v w → Walk ends arcs v w
directed_is_walk ends [] v w h = h
directed_is_walk ends (a ∷ arcs) v w h = ((ends a).1, inl (h.0, refl), directed_is_walk ends arcs (ends a).1 w h.1)

-- a walk that leads elsewhere enters its end
last_arc : (ends : ℕ → ℕ × ℕ) (arcs : List ℕ) (v w : ℕ) → DirectedWalk ends arcs v w
    → (v ≡ w) ⊎ ((a : ℕ) × (is_member a arcs ≡ true) × ((ends a).1 ≡ w))
last_arc ends [] v w h = inl h
last_arc ends (a ∷ arcs) v w h = elim (last_arc ends arcs (ends a).1 w h.1) [
  | inl same ↦ inr (a, is_member-head a arcs, same)
  | inr later ↦ inr (later.0, is_member-tail later.0 a arcs later.1, later.2)
]

module _ (n vertices : ℕ) (ends : ℕ → ℕ × ℕ) (root : ℕ) (small : root < vertices) (X : List ℕ)
    (below : AreEndsBelow ends vertices X) (t : IsSpanningArborescence vertices n ends root X) where
  pub entered : (v : ℕ) → v < vertices → v ≢ root → (a : ℕ) × (is_member a X ≡ true) × ((ends a).1 ≡ v)
  entered v l other =
      let r = t.reached v l in
      elim (last_arc ends r.along root v r.walk) [
        | inl same ↦ absurd (other (sym same))
        | inr w ↦ (w.0, r.inside.inside w.0 w.1, w.2)
      ]

  -- without an arc, some vertex but the root is not entered
  no_spare_arc : (a : ℕ) → is_member a X ≡ true
      → ((v : ℕ) → v < vertices → v ≢ root → (b : ℕ) × (is_member b X ≡ true) × (b ≢ a) × ((ends b).1 ≡ v)) → ⊥
  no_spare_arc a m still =
      let others = without_one (all_below vertices) root in
      let rest = without_one X a in
      let all_others : length others < length X = omega (
        arith,
        length-covered (head_of ends) rest others (IsRising-without_one _ root (IsRising-all_below vertices)) (λ v o.
            let p = and_parts (is_member v (all_below vertices)) (not (eqb v root)) (sym (is_member-without_one v root (all_below vertices)) ∙ o) in
            let w = still v (ltb-true v vertices (sym (is_member-all_below v vertices) ∙ p.0)) (eqb-false _ _ (not-true _ p.1)) in
            (w.0, is_member-without_one w.0 a X ∙ and_from (is_member w.0 X) (not (eqb w.0 a)) w.1 (ap not (ne_eqb _ _ w.2)), w.3)),
        length-without_one X a t.set.rising m,
      ) in
      absurd (omega (
        arith,
        all_others,
        t.size,
        length-without_one (all_below vertices) root (IsRising-all_below vertices)
            (is_member-all_below root vertices ∙ lt-ltb root vertices small),
        length-all_below vertices,
      ))

  pub arborescence_enters_once : EntersOnce ends root X
  arborescence_enters_once = record {
    no_root = λ a m same. no_spare_arc a m (λ v l other.
        let w = entered v l other in
        (w.0, w.1, (λ e. other (sym w.2 ∙ ap (λ z. (ends z).1) e ∙ same)), w.2));
    once = λ a b m o same. elim (cases_eq a b) [
      | inl e ↦ e
      | inr d ↦ absurd (no_spare_arc a m (λ v l other.
          let w = entered v l other in
          elim (cases_eq w.0 a) [
            | inl e ↦ (b, o, (λ f. d (sym f)), sym same ∙ ap (λ z. (ends z).1) (sym e) ∙ w.2)
            | inr f ↦ (w.0, w.1, f, w.2)
          ]))
    ];
  }

  pub arborescence_is_forest : is_graphic n ends X ≡ true
  arborescence_is_forest = spanning_forest ends n vertices (least_merged ends X root) X t.set below (omega (arith, t.size)) (λ v l.
      let r = t.reached v l in
      sym (walk_same ends X r.along root v (λ e m. member_within ends X e (r.inside.inside e m)) (directed_is_walk ends r.along root v r.walk)))
