-- Where no free index is reached from the indices of an element, it and the elements at the reached indices have reached indices alone,
-- which are fewer than they: so no set with all of them can be matched.
use Rattle.mat_linked.proofs.Common.{◌≡◌, ℕ, suc, true, false, eqb, List, ◌∷◌, length, map, is_none, Option, Some, None, inl, inr, refl, sym, ap, ◌∙◌, subst, arith, both_ways, eq-eqb, eqb-true, false_from_ne_true, or_cases, or_left, or_right, length-map, is_member, with_one, AreDistinct}
use Rattle.mat_linked.proofs.Common.{IsReachedSet, AreDistinct-rising, length-distinct_subset, is_member-with_one, row_at, entry_at, is_held, AreMatchable, IsMatching}
use Rattle.mat_sets.proofs.MappedLists.{AreDistinct-map, mapped_member}

-- the element that an entry has
abbrev element_of : Option ℕ → ℕ
element_of None = 0
element_of (Some x) = x

entry_is : (entry : Option ℕ) → is_none entry ≡ false → entry ≡ Some (element_of entry)
entry_is None h = absurd (both_ways true h refl)
entry_is (Some x) h = refl

module _ (sets : ℕ) (rows : List (List ℕ)) (X : List ℕ) (matched : List (Option ℕ)) (element : ℕ) (t : IsMatching rows X matched)
    (fresh : is_member element X ≡ false) (reached : List ℕ)
    (reach : IsReachedSet sets (λ j. is_held rows (entry_at matched j)) (λ j. is_member j (row_at rows element)) reached)
    (missed : (j : ℕ) → is_member j reached ≡ true → is_none (entry_at matched j) ≡ false) where
  -- the element at a reached index
  abbrev at_index : ℕ → ℕ
  at_index j = element_of (entry_at matched j)

  stands : (j : ℕ) → is_member j reached ≡ true → entry_at matched j ≡ Some (at_index j)
  stands j on = entry_is (entry_at matched j) (missed j on)

  module _ (Y : List ℕ) (new_member : is_member element Y ≡ true)
      (old_member : (j x : ℕ) → is_member j reached ≡ true → entry_at matched j ≡ Some x → is_member x Y ≡ true)
      (m : AreMatchable rows sets Y) where
    there : (j : ℕ) → is_member j reached ≡ true → is_member (at_index j) Y ≡ true
    there j on = old_member j (at_index j) on (stands j on)

    -- the indices that they would have
    abbrev indices : List ℕ
    indices = m.index element ∷ map (λ j. m.index (at_index j)) reached

    indices_distinct : AreDistinct indices
    indices_distinct = (
      false_from_ne_true _ (λ h. (let w = mapped_member (λ j. m.index (at_index j)) reached (m.index element) h in
          let same = m.differ (at_index w.0) element (there w.0 w.1) new_member w.2 in
          both_ways _ fresh (ap (λ x. is_member x X) (sym same) ∙ t.inside w.0 (at_index w.0) (stands w.0 w.1)))),
      AreDistinct-map (λ j. m.index (at_index j)) reached (AreDistinct-rising reached reach.set.rising) (λ j k on also same.
          (let equal = m.differ (at_index j) (at_index k) (there j on) (there k also) same in
          t.once j k (at_index k) (stands j on ∙ ap Some equal) (stands k also))),
    )

    indices_reached : (j : ℕ) → is_member j indices ≡ true → is_member j reached ≡ true
    indices_reached j h = elim (or_cases (eqb j (m.index element)) (is_member j (map (λ i. m.index (at_index i)) reached)) h) [
      | inl first ↦ ap (λ i. is_member i reached) (eqb-true j (m.index element) first)
          ∙ reach.starts (m.index element) (m.listed element new_member) (m.held element new_member)
      | inr later ↦ (let w = mapped_member (λ i. m.index (at_index i)) reached j later in
          ap (λ i. is_member i reached) (sym w.2)
          ∙ reach.closed w.0 (m.index (at_index w.0)) w.1 (m.listed (at_index w.0) (there w.0 w.1))
          (ap (λ e. is_held rows e (m.index (at_index w.0))) (stands w.0 w.1) ∙ m.held (at_index w.0) (there w.0 w.1)))
    ]

    -- a set with the element and all those at reached indices cannot be matched
    pub stuck_set : ⊥
    stuck_set =
        let few = length-distinct_subset indices reached indices_distinct reach.set.rising (record { inside = indices_reached }) in
        let size : length indices ≡ suc (length reached) = ap suc (length-map reached (λ j. m.index (at_index j))) in
        absurd (omega (arith, few, size))

-- without a walk there is no matching with the new element
pub stuck : (sets : ℕ) (rows : List (List ℕ)) (matched read : List (Option ℕ)) (element : ℕ) (reached : List ℕ) → read ≡ matched
    → sets ≡ length matched
    → IsReachedSet sets (λ j. is_held rows (entry_at read j)) (λ j. is_member j (row_at rows element)) reached
    → ((j : ℕ) → is_member j reached ≡ true → is_none (entry_at read j) ≡ false)
    → (X : List ℕ) → is_member element X ≡ false → IsMatching rows X matched
    → AreMatchable rows (length matched) (with_one X element) → ⊥
stuck sets rows matched read element reached same size reach missed X fresh t m =
    stuck_set sets rows X matched element t fresh reached
    (subst (λ b. IsReachedSet sets (λ j. is_held rows (entry_at b j)) (λ j. is_member j (row_at rows element)) reached) same reach)
    (λ j on. sym (ap (λ b. is_none (entry_at b j)) same) ∙ missed j on) (with_one X element)
    (is_member-with_one element element X ∙ or_left (eqb element element) (is_member element X) (eq-eqb element element refl))
    (λ j x on e. is_member-with_one x element X ∙ or_right (eqb x element) (is_member x X) (t.inside j x e))
    (subst (λ n. AreMatchable rows n (with_one X element)) (sym size) m)
