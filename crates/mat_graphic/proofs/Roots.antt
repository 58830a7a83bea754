-- From a place up to the root of its tree: each step stays in one component, and two roots are in two components.
use Rattle.mat_graphic.proofs.Common.{◌≡◌, ℕ, ◌<◌, true, eqb, List, [], ◌∷◌, length, get_or, inl, inr, refl, sym, ap, ◌∙◌, arith, cases_lt, cases_eq, eq-eqb, ne_eqb, eqb-true, is_member, least_merged, member_within, walk_same, IsTree}

-- the component of the vertex at a place
abbrev pub component_at : (ℕ → ℕ × ℕ) → List ℕ → List ℕ → ℕ → ℕ
component_at ends X order k = least_merged ends X (get_or order k 0)

module _ (ends : ℕ → ℕ × ℕ) (X order through before : List ℕ) (t : IsTree ends X order through before) where
  pub same-before : (k : ℕ) → k < length order → get_or before k 0 < k → component_at ends X order (get_or before k 0) ≡ component_at ends X order k
  same-before k inside down =
      let e = get_or through k 0 in
      sym (walk_same ends X (e ∷ []) (get_or order k 0) (get_or order (get_or before k 0) 0)
      (λ f m. member_within ends X f (ap (λ y. is_member y X) (eqb-true f e (only f e m)) ∙ t.member k inside down))
      (get_or order (get_or before k 0) 0, t.joined k inside down, refl))
    where
      only : (f e : ℕ) → is_member f (e ∷ []) ≡ true → eqb f e ≡ true
      only f e m = grind arith

  pub roots-differ : (j k : ℕ) → j < length order → k < length order → get_or before j 0 ≡ j → get_or before k 0 ≡ k
      → eqb j k ≡ eqb (component_at ends X order j) (component_at ends X order k)
  roots-differ j k inside inside' root root' = elim (cases_eq j k) [
    | inl same ↦ eq-eqb j k same ∙ sym (eq-eqb _ _ (ap (component_at ends X order) same))
    | inr d ↦ ne_eqb j k d ∙ sym (ne_eqb _ _ (λ same. elim (cases_lt j k) [
      | inl less ↦ t.apart k inside' root' j less same
      | inr le ↦ t.apart j inside root k (omega arith) (sym same)
    ]))
  ]
