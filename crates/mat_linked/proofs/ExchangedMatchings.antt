-- The members of a matched set whose place an element can take, where from its indices no free one is reached: those at reached indices.
-- Such a member, taken out, leaves its index free, and a walk leads to it, along which the others move on; the element and the members at
-- reached indices alone cannot be matched, so one of the latter has to leave.
use Rattle.mat_linked.proofs.Common.{◌≡◌, ℕ, ◌<◌, true, false, Bool, not, eqb, List, length, get_or, set, is_none, Option, Some, None, inl, inr, refl, sym, ap, ◌∙◌, subst, arith, get_or-set_other, get_or-set_same, length-set, both_ways, cases_eq, eq-eqb, ne_eqb, or_left, or_right, and_from}
use Rattle.mat_linked.proofs.Common.{and_parts, is_member, with_one, without_one, IsReachedSet, IsShortestWalk, set_members, is_member-with_one, is_member-without_one, finite_reach, reached_by_induction, walk_differs, row_at, entry_at, IsShifted, entry_inside, none_is_not_some, some_is_one}
use Rattle.mat_linked.proofs.Common.{shifted_table, is_held, AreMatchable, IsMatching}
use Rattle.mat_linked.proofs.AugmentedMatchings.{augmented}
use Rattle.mat_linked.proofs.StuckMatchings.{stuck_set}

-- along a shortest walk they can move on
shifted_along : (sets : ℕ) (arc : ℕ → ℕ → Bool) (start goal : ℕ → Bool) (first : Option ℕ) (walk : List ℕ)
    (old : List (Option ℕ))
    → length old ≡ sets → IsShortestWalk sets arc start goal walk → (new : List (Option ℕ)) × IsShifted first walk old new
shifted_along sets arc start goal first walk old long w =
    shifted_table first walk old (λ i l. subst (λ n. get_or walk i 0 < n) (sym long) (w.walk.below i l))
    (walk_differs sets arc start goal walk walk refl w)

-- ---- members of a set that changes

gone : (y : ℕ) (X : List ℕ) → is_member y (without_one X y) ≡ false
gone y X = grind (arith, set_members)

still_new : (e y : ℕ) (X : List ℕ) → is_member e X ≡ false → is_member e (without_one X y) ≡ false
still_new e y X m = grind (arith, set_members)

still_in : (x y : ℕ) (X : List ℕ) → is_member x X ≡ true → eqb x y ≡ false → is_member x (without_one X y) ≡ true
still_in x y X m d = is_member-without_one x y X ∙ and_from (is_member x X) (not (eqb x y)) m (ap not d)

still_there : (x y e : ℕ) (X : List ℕ) → is_member x X ≡ true → eqb x y ≡ false → is_member x (with_one (without_one X y) e) ≡ true
still_there x y e X m d = is_member-with_one x e (without_one X y) ∙ or_right (eqb x e) (is_member x (without_one X y)) (still_in x y X m d)

put_in : (e : ℕ) (A : List ℕ) → is_member e (with_one A e) ≡ true
put_in e A = is_member-with_one e e A ∙ or_left (eqb e e) (is_member e A) (eq-eqb e e refl)

module _ (sets : ℕ) (rows : List (List ℕ)) (X : List ℕ) (matched : List (Option ℕ)) (element : ℕ) (t : IsMatching rows X matched)
    (fresh : is_member element X ≡ false) (reached : List ℕ)
    (reach : IsReachedSet sets (λ j. is_held rows (entry_at matched j)) (λ j. is_member j (row_at rows element)) reached) where
  -- ---- a member at no reached index

  -- the element cannot take its place
  pub not_exchanged : ((j : ℕ) → is_member j reached ≡ true → is_none (entry_at matched j) ≡ false) → (y : ℕ)
      → ((j : ℕ) → is_member j reached ≡ true → entry_at matched j ≡ Some y → ⊥)
      → AreMatchable rows sets (with_one (without_one X y) element) → ⊥
  not_exchanged missed y elsewhere =
      stuck_set sets rows X matched element t fresh reached reach missed (with_one (without_one X y) element)
      (put_in element (without_one X y)) left
    where
      left : (j x : ℕ) → is_member j reached ≡ true → entry_at matched j ≡ Some x
          → is_member x (with_one (without_one X y) element) ≡ true
      left j x on e = elim (cases_eq x y) [
        | inl same ↦ absurd (elsewhere j on (e ∙ ap Some same))
        | inr differ ↦ still_there x y element X (t.inside j x e) (ne_eqb x y differ)
      ]

  -- ---- a member at a reached index, taken out

  module _ (j y : ℕ) (long : length matched ≡ sets) (on : is_member j reached ≡ true) (here : entry_at matched j ≡ Some y) where
    abbrev freed : List (Option ℕ)
    freed = set matched j None

    freed_here : entry_at freed j ≡ None
    freed_here = get_or-set_same matched j None None (entry_inside matched j y here)

    freed_other : (k : ℕ) → (k ≡ j → ⊥) → entry_at freed k ≡ entry_at matched k
    freed_other k d = get_or-set_other matched j k None None d

    differs : (k x : ℕ) → entry_at freed k ≡ Some x → k ≡ j → ⊥
    differs k x e same = none_is_not_some x (sym (ap (entry_at freed) same ∙ freed_here) ∙ e)

    was : (k x : ℕ) → entry_at freed k ≡ Some x → entry_at matched k ≡ Some x
    was k x e = sym (freed_other k (differs k x e)) ∙ e

    -- the others are still matched
    freed_matching : IsMatching rows (without_one X y) freed
    freed_matching = record {
      held = λ k x e. t.held k x (was k x e);
      inside = λ k x e. elim (cases_eq x y) [
        | inl same ↦ absurd (differs k x e (t.once k j y (was k x e ∙ ap Some same) here))
        | inr d ↦ still_in x y X (t.inside k x (was k x e)) (ne_eqb x y d)
      ];
      covered = λ x m. (let parts = and_parts (is_member x X) _ (sym (is_member-without_one x y X) ∙ m) in
          let c = t.covered x parts.0 in (c.0, freed_other c.0 (λ same. moved x c.0 m same c.1) ∙ c.1));
      once = λ k l x e f. t.once k l x (was k x e) (was l x f);
    }
      where
        moved : (x k : ℕ) → is_member x (without_one X y) ≡ true → k ≡ j → entry_at matched k ≡ Some x → ⊥
        moved x k m same e =
            let equal : x ≡ y = some_is_one x y (sym e ∙ ap (entry_at matched) same ∙ here) in
            both_ways (is_member y (without_one X y)) (gone y X)
            (ap (λ z. is_member z (without_one X y)) (sym equal) ∙ m)

    abbrev freed_arc : ℕ → ℕ → Bool
    freed_arc k = is_held rows (entry_at freed k)

    abbrev start : ℕ → Bool
    start k = is_member k (row_at rows element)

    abbrev freed_goal : ℕ → Bool
    freed_goal k = is_none (entry_at freed k)

    -- a set that is reached without a free index has all that was reached before
    reached_again : (other : List ℕ) → IsReachedSet sets freed_arc start other
        → ((k : ℕ) → is_member k other ≡ true → freed_goal k ≡ false)
        → (k : ℕ) → is_member k reached ≡ true → is_member k other ≡ true
    reached_again other r missed k h =
        reached_by_induction reached (λ v. is_member v other) reach (λ v l e. r.starts v l e) (λ u v m l i a. step u v l i a) k h
      where
        step : (u v : ℕ) → v < sets → is_member u other ≡ true → is_held rows (entry_at matched u) v ≡ true
            → is_member v other ≡ true
        step u v l i a = elim (cases_eq u j) [
          | inl same ↦ absurd (both_ways (freed_goal j) (missed j (ap (λ w. is_member w other) (sym same) ∙ i)) (ap is_none freed_here))
          | inr d ↦ r.closed u v i l (ap (λ e. is_held rows e v) (freed_other u d) ∙ a)
        ]

    -- a walk leads to a free index
    exchange_walk : (walk : List ℕ) × IsShortestWalk sets freed_arc start freed_goal walk
    exchange_walk = elim (finite_reach sets freed_arc start freed_goal) [
      | inl found ↦ found
      | inr stuck ↦ absurd
          (both_ways (freed_goal j) (stuck.2 j (reached_again stuck.0 stuck.1 stuck.2 j on)) (ap is_none freed_here))
    ]

    -- the element takes its place
    pub exchanged : (new : List (Option ℕ)) × (length new ≡ sets) × IsMatching rows (with_one (without_one X y) element) new
    exchanged =
        let w = exchange_walk in
        let same_size : length freed ≡ sets = length-set matched j None ∙ long in
        let s = shifted_along sets freed_arc start freed_goal (Some element) w.0 freed same_size w.1 in (
          s.0,
          s.1.long ∙ same_size,
          augmented sets rows freed freed s.0 element w.0 w.0 refl refl w.1 s.1 (without_one X y) (still_new element y X fresh) freed_matching,
        )
